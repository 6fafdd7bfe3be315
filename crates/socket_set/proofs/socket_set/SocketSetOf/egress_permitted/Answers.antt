use Rattle.std.specs.Prelude.{vec_capacity}
use Rattle.std.proofs.Common.{◌∙◌, ap, refl}
use Rattle.socket_set.specs.SocketMeta.{after_asking}
use Rattle.socket_set.specs.SocketSet.{Storage, over, with_wait}
use Rattle.socket_set.proofs.SocketSetLemmas.{keyed_waiting, ported_waiting, wait_set, wait_is, socket_is, some_none, true_asked}
use Rattle.socket_set.proofs.socket_set.SocketSetOf.egress_permitted.Goals as goal

pub returns-clause-socket : goal.returns-clause-socket
returns-clause-socket g c = λ some.
    let ps = c.self.inside.sockets.items in
    let i = c.args.index in
    let grows = c.self.inside.grows in
    let room = vec_capacity c.self.inside.sockets in
    let p : Storage g.row.L.Denot = record { socket = c.storage.inside.inner; wait = c.storage.inside.meta } in
    let is = rw (← c.storage.view_is) at c.in-Some.ensures.value in
    let e = c.egress_permitted.ensures in
    rw (← c.self.view_is, wait_is grows room ps i p c.in-Some.ensures.item.3.0 is)
    (e.0, e.1, e.2, wait_set grows room ps i p c.egress_permitted.new.self is ∙ ap (with_wait (over ps grows room) i) e.3)

pub returns-clause-nobody : goal.returns-clause-nobody
returns-clause-nobody g c = λ none.
    let ps = c.self.inside.sockets.items in
    let p : Storage g.row.L.Denot = record { socket = c.storage.inside.inner; wait = c.storage.inside.meta } in
    let is = rw (← c.storage.view_is) at c.in-Some.ensures.value in
    absurd (some_none c.storage.inside.inner (c.is_none.ensures ∙ rw c.if-is_none.false refl) (rw (
      ← c.self.view_is,
      socket_is c.self.inside.grows (vec_capacity c.self.inside.sockets) ps c.args.index p c.in-Some.ensures.item.3.0 is,
    ) at none))

pub invariant_of-self-2 : goal.invariant_of-self-2
invariant_of-self-2 g c =
    let ps = c.self.inside.sockets.items in
    let grows = c.self.inside.grows in
    let room = vec_capacity c.self.inside.sockets in
    let i = c.args.index in
    let p : Storage g.row.L.Denot = record { socket = c.storage.inside.inner; wait = c.storage.inside.meta } in
    let is = rw (← c.storage.view_is) at c.in-Some.ensures.value in
    let e = c.egress_permitted.ensures in
    rw e.3 (
      true_asked grows room ps c.self.inside.busy i p e.0 is c.self.invariant.0,
      keyed_waiting grows room ps c.self.inside.keys i p (after_asking p.wait e.0) is c.self.invariant.1,
      λ none. ported_waiting grows room ps i p (after_asking p.wait e.0) is (c.self.invariant.2 none),
    )
