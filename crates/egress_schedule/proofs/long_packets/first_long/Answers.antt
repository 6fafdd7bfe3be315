use Rattle.std.proofs.Common.{ℕ, ◌≡◌, ◌-◌, Bool, sym, ◌∙◌, subst}
use Rattle.egress_schedule.specs.LongPackets.{has_long}
use Rattle.egress_schedule.specs.Plan.{first_from}
use Rattle.egress_schedule.proofs.First.{add-one, found, passed}
use Rattle.egress_schedule.proofs.long_packets.first_long.Goals as goal

pub loop-index-preserved : goal.loop-index-preserved
loop-index-preserved g c =
    let p : ℕ → Bool = has_long c.args.ip_mtu c.args.sockets.now in
    let i : ℕ = c.loop-index.index in
    let n : ℕ = c.args.count in
    subst (λ (k : ℕ). first_from p c.args.from (n - c.args.from) ≡ first_from p k (n - k)) (add-one i)
    (c.loop-index.invariant ∙ passed p i n c.loop-index-test.true (sym c.has_long.ensures ∙ c.if-has_long.false))

pub returns-then-has_long : goal.returns-then-has_long
returns-then-has_long g c =
    let p : ℕ → Bool = has_long c.args.ip_mtu c.args.sockets.now in
    let here = sym c.has_long.ensures ∙ c.if-has_long.true in
    sym (c.loop-index.invariant ∙ found p c.loop-index.index c.args.count c.loop-index-test.true here)
