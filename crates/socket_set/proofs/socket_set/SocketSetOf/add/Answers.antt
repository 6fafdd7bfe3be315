use Rattle.std.proofs.Common.{◌≡◌, ◌≤◌, length, ◌++◌, ◌∷◌, [], Option, Some, None, ◌∙◌, ap, arith}
use Rattle.std.specs.Prelude.{vec_capacity, not}
use Rattle.std.proofs.lemmas.Grind.{common_steps}
use Rattle.std.proofs.lemmas.List.{length-map}
use Rattle.sockets.specs.declared.socket.SocketOf.{SocketOf}
use Rattle.socket_set.specs.SocketSet.{Storage, over}
use Rattle.socket_set.proofs.SocketSetLemmas.{keyed_pushed, keyed_written, has_port, neither_true, added_within, added_after}
use Rattle.socket_set.proofs.SocketSetLemmas.{first_free_le, ported_pushed, ported_written, true_pushed, true_written}
use Rattle.socket_set.proofs.socket_set.SocketSetOf.add.Goals as goal

pub returns-then-index-len-clause-added : goal.returns-then-index-len-clause-added
returns-then-index-len-clause-added g c =
    rw (← c.self.view_is, ← c.upcast-socket.ensures, c.holding.ensures)
    (added_within c.self.inside.grows (vec_capacity c.self.inside.sockets) (vec_capacity c.self.inside.sockets) c.self.inside.sockets.items
    c.first_free-index.result c.upcast-socket.result (rw c.as_slice.ensures.value at c.first_free-index.ensures) (grind (arith, common_steps)))

pub returns-clause-added : goal.returns-clause-added
returns-clause-added g c =
    let p : Storage g.row.L.Denot = record { socket = Some c.upcast-socket-2.result; wait = None } in
    let pushed : c.push_reserved.new.self.items ≡ c.self.inside.sockets.items ++ p ∷ [] = grind (arith, common_steps) in
    rw (← c.self.view_is, ← c.upcast-socket-2.ensures)
    (ap (λ ps. over ps c.self.inside.grows (vec_capacity c.push_reserved.new.self)) pushed
    ∙ added_after c.self.inside.grows (vec_capacity c.self.inside.sockets) (vec_capacity c.push_reserved.new.self) c.self.inside.sockets.items
    c.first_free-index.result c.upcast-socket-2.result (rw c.as_slice.ensures.value at c.first_free-index.ensures) (grind (arith, common_steps)))

pub invariant_of-self : goal.invariant_of-self
invariant_of-self g c =
    let ps = c.self.inside.sockets.items in
    let grows = c.self.inside.grows in
    let room = vec_capacity c.self.inside.sockets in
    let i = c.first_free-index.result in (
      true_written grows room ps c.self.inside.busy c.set.new.self i c.holding.result c.set.ensures.marked c.set.ensures.others c.self.invariant.0,
      (rw c.set-2.ensures (keyed_written grows room ps c.self.inside.keys i c.holding.result c.self.invariant.1)),
      λ none.
          let kept = neither_true c.self.inside.portless c.is_none.result none in
          ported_written grows room ps i c.holding.result
          (rw c.holding.ensures (has_port c.own_port.result _ (c.is_none.ensures ∙ ap not kept.1) c.own_port.ensures)) (c.self.invariant.2 kept.0),
    )

pub invariant_of-self-2 : goal.invariant_of-self-2
invariant_of-self-2 g c =
    let ps = c.self.inside.sockets.items in
    let grows = c.self.inside.grows in
    let room = vec_capacity c.self.inside.sockets in
    let p : Storage g.row.L.Denot = record { socket = Some c.upcast-socket-2.result; wait = None } in
    let pushed : c.push_reserved.new.self.items ≡ ps ++ p ∷ [] = grind (arith, common_steps) in
    let least : c.first_free-index.result ≤ length ps = omega (
      arith,
      first_free_le (over ps grows room).places,
      length-map {A = Storage g.row.L.Denot} {B = Option (SocketOf g.row.L.Denot)},
      rw c.as_slice.ensures.value at c.first_free-index.ensures,
    ) in
    let last : c.first_free-index.result ≡ length ps = omega arith in
    rw pushed (
      true_pushed grows room ps c.self.inside.busy c.set.new.self c.first_free-index.result p last
          c.set.ensures.marked c.set.ensures.others c.self.invariant.0,
      (rw c.set-2.ensures (keyed_pushed grows room ps c.self.inside.keys c.first_free-index.result p last c.self.invariant.1)),
      λ none.
          let kept = neither_true c.self.inside.portless c.is_none-2.result none in
          ported_pushed grows room ps p
          (has_port c.own_port-2.result _ (c.is_none-2.ensures ∙ ap not kept.1) c.own_port-2.ensures) (c.self.invariant.2 kept.0),
    )
