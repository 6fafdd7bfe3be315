use Rattle.std.proofs.Common.{◌≡◌, Bool, true, sym, ap, ◌∙◌, arith, Some}
use Rattle.std.specs.Prelude.{◌==◌, if◌then◌else◌}
use Rattle.std.proofs.lemmas.Bool.Decides.{nat_tests}
use Rattle.tcp_machine.specs.Connection.{Connection}
use Rattle.tcp_machine.specs.Positions.{number_at}
use Rattle.tcp_machine.specs.Acknowledgements.{with_pending}
use Rattle.tcp_machine.specs.Arrivals.{established, after_position_acknowledged}
use Rattle.tcp_machine.specs.declared.timers.Pending.TheVariants.{Reset}
use Rattle.tcp_connection.specs.Segments.{segment_of, piece_of}
use Rattle.tcp_connection.proofs.connection.Connection.take_ack_of_syn.Goals as goal

pub returns-then-number-number_at-clause-value : goal.returns-then-number-number_at-clause-value
returns-then-number-number_at-clause-value c =
    let old = c.args.self.now in
    let s = segment_of c.args.segment.now c.args.octets.now in
    let p = piece_of c.args.start c.args.segment.now c.args.octets.now in
    let n : c.args.number ≡ number_at old.local 1 =
    c.if-number-number_at.true ∙ c.number_at.ensures ∙ ap (λ (x : Connection). number_at x.local 1) c.self.view_is in
    let t : (c.args.number == number_at old.local 1) ≡ true = grind (arith, nat_tests, n) in
    let keeps = c.take_if_believed.result in
    c.take_if_believed.ensures.value
    ∙ ap (λ (x : Connection). after_position_acknowledged c.args.now keeps (Some 1) s p x) c.establish.ensures
    ∙ sym (ap (λ (b : Bool). if b then after_position_acknowledged c.args.now keeps (Some 1) s p (established old)
    else with_pending (Reset c.args.number) old) t)
