use Rattle.std.proofs.Common.{◌∙◌, ◌+◌, ◌≡◌, arith, length, refl, sym}
use Rattle.fragmentation.specs.Slots.{Slots}
use Rattle.iface_context.specs.Stands.{host_in}
use Rattle.iface_sockets.proofs.SocketTurns.{none_served, one_served, all_served, idle_turn, passed, one_refused}
use Rattle.iface_sockets.proofs.PassedSockets.{still_unknown}
use Rattle.iface_sockets.proofs.turns.socket_egress.Goals as goal

pub loop-index-init : goal.loop-index-init
loop-index-init g c =
    let idle = c.next_busy-index.ensures in
    let quiet = g.met.D.Device.tells_nothing c.args.device.now in (
      λ slots. passed g.met.D.Device.tells_on quiet 0 c.next_busy-index.result (omega arith)
          (λ i from before. idle_turn c.args.context.now slots c.args.sockets.now i (omega (arith, before, idle.within)) (idle.idle i from before))
          (none_served (host_in c.args.context.now slots c.args.sockets.now) quiet),
      refl,
      idle.within,
    )

pub next_unlike-index-requires-clause-unknown : goal.next_unlike-index-requires-clause-unknown
next_unlike-index-requires-clause-unknown g c = λ idle slots.
    still_unknown c.loop-index.index c.serve-turn.result idle (c.serve-turn.ensures.told slots).follows

pub returns : goal.returns
returns g c = λ slots.
    let all : c.loop-index.index ≡ length c.args.sockets.now.places = omega (arith, c.loop-index.invariant.1, c.loop-index.invariant.2) in
    all_served (c.loop-index.invariant.0 slots) all

pub returns-then-is_exhausted : goal.returns-then-is_exhausted
returns-then-is_exhausted g c = λ slots.
    one_refused g.met.D.Device.tells_on c.serve-turn.result (c.loop-index.invariant.0 slots) (c.serve-turn.ensures.told slots)
    (sym c.is_exhausted.ensures ∙ c.if-is_exhausted.true)

pub loop-index-preserved : goal.loop-index-preserved
loop-index-preserved g c =
    let next = c.next_unlike-index.ensures in
    let served = λ (slots : Slots). one_served g.met.D.Device.tells_on c.serve-turn.result (c.loop-index.invariant.0 slots)
    (c.serve-turn.ensures.told slots) (sym c.is_exhausted.ensures ∙ c.if-is_exhausted.false) in (
      λ slots. rw c.is_done-changed.ensures
          (passed g.met.D.Device.tells_on (g.met.D.Device.tells_nothing c.serve-turn.new.device) (c.loop-index.index + 1) c.next_unlike-index.result
          (omega arith) (λ i from before. next.passed slots i (omega (arith, from)) before) (served slots)),
      c.serve-turn.ensures.places ∙ c.loop-index.invariant.1,
      next.within,
    )
