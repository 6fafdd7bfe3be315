use Rattle.std.specs.Prelude.{vec_capacity}
use Rattle.socket_set.specs.SocketSet.{Storage}
use Rattle.socket_set.proofs.SocketSetLemmas.{keyed_waiting, ported_waiting, wait_set, true_written}
use Rattle.socket_set.proofs.socket_set.SocketSetOf.neighbor_missing.Goals as goal

pub returns : goal.returns
returns g c =
    let p : Storage g.row.L.Denot = record { socket = c.storage.inside.inner; wait = c.storage.inside.meta } in
    rw (← c.self.view_is, ← c.neighbor_missing.ensures)
    (wait_set c.self.inside.grows (vec_capacity c.self.inside.sockets) c.self.inside.sockets.items c.args.index p c.neighbor_missing.new.self
    (rw (← c.storage.view_is) at c.in-Some.ensures.value))

pub invariant_of-self-2 : goal.invariant_of-self-2
invariant_of-self-2 g c =
    let ps = c.self.inside.sockets.items in
    let grows = c.self.inside.grows in
    let room = vec_capacity c.self.inside.sockets in
    let i = c.args.index in
    let old : Storage g.row.L.Denot = record { socket = c.storage.inside.inner; wait = c.storage.inside.meta } in
    let new : Storage g.row.L.Denot = record { socket = c.storage.inside.inner; wait = c.neighbor_missing.new.self } in
    let is = rw (← c.storage.view_is) at c.in-Some.ensures.value in (
      true_written grows room ps c.self.inside.busy c.set.new.self i new c.set.ensures.marked c.set.ensures.others c.self.invariant.0,
      keyed_waiting grows room ps c.self.inside.keys i old new.wait is c.self.invariant.1,
      λ none. ported_waiting grows room ps i old new.wait is (c.self.invariant.2 none),
    )
