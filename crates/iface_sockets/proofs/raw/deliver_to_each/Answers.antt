use Rattle.std.proofs.Common.{◌≡◌, ◌<◌, ◌+◌, Bool, None, map, ap, arith, length, refl, ◌∙◌}
use Rattle.net_base.specs.Checksum.{is_tx}
use Rattle.socket_set.specs.SocketSet.{with_places}
use Rattle.host_machine.specs.Sockets.Delivery.{to_this}
use Rattle.host_machine.specs.Sockets.Raw.{storage_after_delivery, takes}
use Rattle.iface_context.specs.Stands.{host_of}
use Rattle.host_machine.proofs.Sockets.SocketIteration.{one_heard, one_tested, all_mapped, all_tested}
use Rattle.host_machine.proofs.Sockets.OtherPorts.{not_raw, test_passed, walk_passed}
use Rattle.iface_sockets.proofs.raw.deliver_to_each.Goals as goal

pub loop-index-init : goal.loop-index-init
loop-index-init c =
    let set = c.args.sockets.now in
    let test = takes c.args.header.now in
    let deliver = storage_after_delivery c.tx-summed.result c.args.header.now c.args.payload.now in
    let next = c.next_at-index.ensures in (
      next.within,
      refl,
      walk_passed None test deliver (not_raw c.args.header.now) set set 0 c.next_at-index.result (omega arith) refl next.passed,
      test_passed None test deliver (not_raw c.args.header.now) set set 0 c.next_at-index.result _ (omega arith) refl next.passed refl,
    )

pub loop-index-preserved : goal.loop-index-preserved
loop-index-preserved c =
    let set = c.args.sockets.now in
    let now = c.deliver_at-taken.new.sockets in
    let i = c.loop-index.index in
    let test = takes c.args.header.now in
    let deliver = storage_after_delivery c.tx-summed.result c.args.header.now c.args.payload.now in
    let inv = c.loop-index.invariant in
    let next = c.next_at-index-in-loop-index.ensures in
    let same : length now.places ≡ length set.places = c.deliver_at-taken.ensures.len ∙ inv.1 in
    let within : i < length set.places = omega (arith, inv.1) in
    let heard = one_heard _ set c.loop-index.sockets now i within inv.2 c.deliver_at-taken.ensures.heard in
    let tested = one_tested _ _ set.places c.loop-index.sockets.places i c.loop-index.taken c.deliver_at-taken.result within
    (ap (λ s. s.places) inv.2) inv.3 c.deliver_at-taken.ensures.taken in
    let later = next.after (omega (arith, same, within)) in (
      omega (arith, next.within, same),
      same,
      walk_passed None test deliver (not_raw c.args.header.now) set now (i + 1) c.next_at-index-in-loop-index.result later heard next.passed,
      test_passed None test deliver (not_raw c.args.header.now) set now (i + 1) c.next_at-index-in-loop-index.result _ later heard next.passed tested,
    )

pub returns-clause-taken : goal.returns-clause-taken
returns-clause-taken c =
    let set = c.args.sockets.now in
    let inv = c.loop-index.invariant in
    all_tested _ set.places c.loop-index.index (length set.places) c.loop-index.taken refl inv.0 (omega (arith, inv.1)) inv.3

pub returns-clause-heard : goal.returns-clause-heard
returns-clause-heard c =
    let set = c.args.sockets.now in
    let inv = c.loop-index.invariant in
    ap (host_of c.args.context.now) (inv.2 ∙ ap (with_places set)
    (all_mapped _ set.places c.loop-index.index (length set.places) refl inv.0 (omega (arith, inv.1))
    ∙ ap (λ (summed : Bool). map (to_this (takes c.args.header.now) (storage_after_delivery summed c.args.header.now c.args.payload.now)) set.places)
    (c.tx-summed.ensures ∙ ap (λ x. is_tx x.checksum.ipv4) c.capabilities.ensures)))
