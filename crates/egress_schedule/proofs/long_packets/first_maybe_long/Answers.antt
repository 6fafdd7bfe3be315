use Rattle.std.proofs.Common.{ℕ, ◌≡◌, ◌-◌, Bool, sym, ◌∙◌, subst}
use Rattle.egress_schedule.specs.LongPackets.{may_have_long}
use Rattle.egress_schedule.specs.Plan.{first_from}
use Rattle.egress_schedule.proofs.First.{add-one, found, passed}
use Rattle.egress_schedule.proofs.long_packets.first_maybe_long.Goals as goal

pub loop-index-preserved : goal.loop-index-preserved
loop-index-preserved g c =
    let p : ℕ → Bool = may_have_long c.args.ip_mtu c.args.sockets.now in
    let i : ℕ = c.loop-index.index in
    let n : ℕ = c.args.count in
    subst (λ (k : ℕ). first_from p 0 n ≡ first_from p k (n - k)) (add-one i)
    (c.loop-index.invariant ∙ passed p i n c.loop-index-test.true (sym c.may_have_long.ensures ∙ c.if-may_have_long.false))

pub returns-then-may_have_long : goal.returns-then-may_have_long
returns-then-may_have_long g c =
    let p : ℕ → Bool = may_have_long c.args.ip_mtu c.args.sockets.now in
    let here = sym c.may_have_long.ensures ∙ c.if-may_have_long.true in
    sym (c.loop-index.invariant ∙ found p c.loop-index.index c.args.count c.loop-index-test.true here)
