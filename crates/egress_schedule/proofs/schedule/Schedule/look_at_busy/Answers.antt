use Rattle.std.proofs.Common.{◌≡◌, ◌+◌, ◌<◌, ◌≤◌, ℕ, get_or, length, refl, ap, arith, subst}
use Rattle.std.specs.Prelude.{min}
use Rattle.socket_set.specs.SocketSet.{wait_of}
use Rattle.egress_schedule.specs.Patience.{IsUnnoted, after_look_at}
use Rattle.egress_schedule.specs.Plan.{Plan, Planned, each_of, idle, planned}
use Rattle.egress_schedule.proofs.Unnoted.{none_behind, nobody_waits, one_more, skip, waits_not}
use Rattle.egress_schedule.proofs.schedule.Schedule.look_at_busy.Goals as goal

pub loop-index-init : goal.loop-index-init
loop-index-init g c =
    let s = c.args.sockets.now in
    let next = c.next_busy-index in (
      skip c.args.now s c.args.self.now c.args.self.now 0 (min next.result c.min-count.result) (omega arith) refl (λ i h k. c.requires i)
          (λ i h k. waits_not s i (next.ensures.idle i (omega arith) (omega (arith, k)))),
      next.ensures.within,
      λ k h. c.requires k,
    )

pub loop-index-preserved : goal.loop-index-preserved
loop-index-preserved g c =
    let l = c.loop-index in
    let s = c.args.sockets.now in
    let next = c.next_busy-index-in-loop-index in
    let new = c.look_at.new.self in
    let test : l.index < c.min-count.result = c.loop-index-test.true in
    let here : min l.index c.min-count.result ≡ l.index = omega (arith, test) in
    let before : planned l.self s ≡ each_of (after_look_at c.args.now) l.index (planned c.args.self.now s) =
    subst (λ (n : ℕ). planned l.self s ≡ each_of (after_look_at c.args.now) n (planned c.args.self.now s)) here l.invariant.0 in
    let after : planned new s ≡ each_of (after_look_at c.args.now) (l.index + 1) (planned c.args.self.now s) =
    one_more (after_look_at c.args.now) l.index (planned c.args.self.now s) (planned l.self s) (planned new s) c.look_at.ensures before in
    let watches : new.watches ≡ (after_look_at c.args.now l.index (planned l.self s)).plan.watches =
    ap (λ (r : Planned g.row.L.Denot). r.plan.watches) c.look_at.ensures in
    let unnoted : (k : ℕ) → l.index < k → IsUnnoted (get_or new.watches k idle) =
    none_behind c.args.now l.index (wait_of s l.index) l.self new.watches watches l.invariant.2 in
    let inside : l.index + 1 ≤ length s.places = omega (arith, test, c.min-count.ensures, c.places.ensures) in
    let from : l.index + 1 ≤ next.result = next.ensures.after inside in (
      skip c.args.now s c.args.self.now new (l.index + 1) (min next.result c.min-count.result) (omega (arith, test, from)) after
          (λ i h k. unnoted i (omega (arith, h))) (λ i h k. waits_not s i (next.ensures.idle i h (omega (arith, k)))),
      next.ensures.within,
      λ k h. unnoted k (omega (arith, from, h)),
    )

pub returns : goal.returns
returns g c =
    let l = c.loop-index in
    let s = c.args.sockets.now in
    let done : c.min-count.result ≤ l.index = c.loop-index-test.false in
    let here : min l.index c.min-count.result ≡ c.min-count.result = omega (arith, done) in
    let before : planned l.self s ≡ each_of (after_look_at c.args.now) c.min-count.result (planned c.args.self.now s) =
    subst (λ (n : ℕ). planned l.self s ≡ each_of (after_look_at c.args.now) n (planned c.args.self.now s)) here l.invariant.0 in
    let same : length c.self.inside.watches.items ≡ length c.args.self.now.watches = ap (λ (p : Plan). length p.watches) c.self.view_is in
    skip c.args.now s c.args.self.now l.self c.min-count.result (length c.args.self.now.watches)
    (omega (arith, same, c.min-count.ensures, c.len.ensures)) before
    (λ i h k. l.invariant.2 i (omega (arith, h, k, same, l.invariant.1, c.min-count.ensures, c.len.ensures, c.places.ensures)))
    (λ i h k. nobody_waits s i (omega (arith, h, k, same, c.min-count.ensures, c.len.ensures, c.places.ensures)))
