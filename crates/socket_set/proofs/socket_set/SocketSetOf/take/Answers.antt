use Rattle.std.specs.Prelude.{vec_capacity}
use Rattle.std.proofs.Common.{None}
use Rattle.socket_set.specs.SocketSet.{Storage}
use Rattle.socket_set.proofs.SocketSetLemmas.{keyed_freed, place_set, put_again, none_is, ported_written, socket_is, true_freed}
use Rattle.socket_set.proofs.socket_set.SocketSetOf.take.Goals as goal

pub returns-clause-freed : goal.returns-clause-freed
returns-clause-freed g c = λ within.
    let p : Storage g.row.L.Denot = record { socket = c.storage.inside.inner; wait = c.storage.inside.meta } in
    rw (← c.self.view_is, ← c.handle.view_is, c.take.ensures.after)
    (place_set c.self.inside.grows (vec_capacity c.self.inside.sockets) c.self.inside.sockets.items c.handle.inside.0 p None
    (rw (← c.storage.view_is) at c.in_ok-storage.ensures.value))

pub returns-clause-unchanged : goal.returns-clause-unchanged
returns-clause-unchanged g c = λ none.
    let p : Storage g.row.L.Denot = record { socket = c.storage.inside.inner; wait = c.storage.inside.meta } in
    rw (← c.self.view_is, c.take.ensures.after, ← none_is c.take.result none, c.take.ensures.value)
    (put_again c.self.inside.grows (vec_capacity c.self.inside.sockets) c.self.inside.sockets.items c.handle.inside.0 p
    (rw (← c.storage.view_is) at c.in_ok-storage.ensures.value))

pub invariant_of-self-2 : goal.invariant_of-self-2
invariant_of-self-2 g c =
    let ps = c.self.inside.sockets.items in
    let grows = c.self.inside.grows in
    let room = vec_capacity c.self.inside.sockets in
    let i = c.handle.inside.0 in
    let p : Storage g.row.L.Denot = record { socket = None; wait = c.storage.inside.meta } in
    rw c.take.ensures.after (
      true_freed grows room ps c.self.inside.busy i c.storage.inside.meta c.self.invariant.0,
      keyed_freed grows room ps c.self.inside.keys i c.storage.inside.meta c.self.invariant.1,
      λ none. ported_written grows room ps i p tt (c.self.invariant.2 none),
    )

pub returns-clause-value : goal.returns-clause-value
returns-clause-value g c =
    let p : Storage g.row.L.Denot = record { socket = c.storage.inside.inner; wait = c.storage.inside.meta } in
    rw (
      ← c.self.view_is,
      ← c.handle.view_is,
      socket_is c.self.inside.grows (vec_capacity c.self.inside.sockets) c.self.inside.sockets.items c.handle.inside.0 p
          c.in_ok-storage.ensures.item.3.0 (rw (← c.storage.view_is) at c.in_ok-storage.ensures.value),
    ) c.take.ensures.value
