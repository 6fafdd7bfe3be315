use Rattle.std.proofs.Common.{◌≡◌, ◌<◌, ◌+◌, None, ap, arith, length, refl, ◌∙◌}
use Rattle.socket_set.specs.SocketSet.{with_places}
use Rattle.host_machine.specs.Icmp.Delivery.{accepts, storage_after_delivery}
use Rattle.host_machine.proofs.Sockets.SocketIteration.{one_heard, all_mapped}
use Rattle.host_machine.proofs.Sockets.OtherPorts.{not_icmp, walk_passed}
use Rattle.iface_icmp.proofs.delivery.deliver_to_each.Goals as goal

pub loop-index-init : goal.loop-index-init
loop-index-init c =
    let set = c.args.sockets.now in
    let next = c.next_at-index.ensures in (
      next.within,
      refl,
      walk_passed None (accepts c.args.message.now c.args.contents.now) (storage_after_delivery c.args.remote c.args.octets.now)
          (not_icmp c.args.message.now c.args.contents.now) set set 0 c.next_at-index.result (omega arith) refl next.passed,
    )

pub loop-index-preserved : goal.loop-index-preserved
loop-index-preserved c =
    let set = c.args.sockets.now in
    let now = c.deliver_at.new.sockets in
    let i = c.loop-index.index in
    let next = c.next_at-index-in-loop-index.ensures in
    let same : length now.places ≡ length set.places = c.deliver_at.ensures.len ∙ c.loop-index.invariant.1 in
    let within : i < length set.places = omega (arith, c.loop-index.invariant.1) in
    let heard = one_heard _ set c.loop-index.sockets now i within c.loop-index.invariant.2 c.deliver_at.ensures.heard in (
      omega (arith, next.within, same),
      same,
      walk_passed None (accepts c.args.message.now c.args.contents.now)
          (storage_after_delivery c.args.remote c.args.octets.now) (not_icmp c.args.message.now c.args.contents.now) set now
          (i + 1) c.next_at-index-in-loop-index.result (next.after (omega (arith, same, within))) heard next.passed,
    )

pub returns : goal.returns
returns c =
    let set = c.args.sockets.now in
    let inv = c.loop-index.invariant in
    inv.2 ∙ ap (with_places set) (all_mapped _ set.places c.loop-index.index (length set.places) refl inv.0 (omega (arith, inv.1)))
