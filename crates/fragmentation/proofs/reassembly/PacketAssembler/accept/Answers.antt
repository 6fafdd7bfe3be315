use Rattle.std.proofs.Common.{◌≡◌, ◌+◌, length, true}
use Rattle.fragmentation.specs.Fragments.{is_fit}
use Rattle.fragmentation.specs.Stands.{fragment, with_total}
use Rattle.fragmentation.proofs.FragmentsLemmas.{not_beyond, taken_in, not_err, fit_last, fit_more, one_last, one_kept}
use Rattle.fragmentation.proofs.reassembly.PacketAssembler.accept.Goals.{else-is_last-via-then-is_last+else-is_err, else-is_last-via-else-is_last}
use Rattle.fragmentation.proofs.reassembly.PacketAssembler.accept.Goals as goal

pub returns-clause-gathers : goal.returns-clause-gathers
returns-clause-gathers gen c = λ g h.
    let f = fragment c.args.offset c.args.octets.now c.args.is_last in
    let fits = not_beyond (c.args.offset + length c.args.octets.now) c.if-ends_beyond.ensures in
    let took = taken_in c.add.result (c.args.offset + length c.args.octets.now) c.add.ensures.refused.0 fits c.add.ensures.gathers in
    elim c.else-is_last.branch [
      | else-is_last-via-then-is_last+else-is_err w ↦
          let fit : is_fit g.total f ≡ true = rw h.total at (fit_last w.set_total_size.result c.args.self.now.total f fits
          w.set_total_size.ensures.refused.1 w.if-is_err.ensures.value w.if-is_last.true) in
          rw (← one_last g f fit w.if-is_last.true) (took (with_total g (c.args.offset + length c.args.octets.now)) c.args.is_last
          (rw w.self-is (not_err w.set_total_size.result w.set_total_size.ensures.gathers w.if-is_err.ensures.value g h)))
      | else-is_last-via-else-is_last w ↦
          let fit : is_fit g.total f ≡ true = fit_more g.total f fits w.if-is_last.false in
          rw (← one_kept g f fit w.if-is_last.false) (took g c.args.is_last (rw w.self-is h))
    ]
