use Rattle.std.specs.Prelude.{vec_capacity}
use borrow.Follows.Closed.{read_of}
use Rattle.std.proofs.Common.{Some, sym, ◌∙◌}
use Rattle.std.specs.Option.{ghost_name_of}
use Rattle.socket_set.specs.SocketSet.{Storage}
use Rattle.socket_set.proofs.SocketSetLemmas.{keyed_written, place_set, put_again, socket_is, true_written}
use Rattle.socket_set.proofs.socket_set.SocketSetOf.socket_mut.Goals as goal

pub returns : goal.returns
returns g c =
    let ps = c.self.inside.sockets.items in
    let i = c.args.index in
    let p = c.in_ok-storage.storage.now in
    let grows = c.self.inside.grows in
    let room = vec_capacity c.self.inside.sockets in
    let is = c.in_ok-storage.ensures.value in
    rw (← c.self.view_is) (
      λ t. read_of (ghost_name_of c.socket_mut.result) (λ w. place_set grows room ps i p (Some w) is t) (put_again grows room ps i p is t),
      record { lends = tt; value = c.socket_mut.ensures.value ∙ sym (socket_is grows room ps i p c.in_ok-storage.ensures.item.3.0 is) },
    )

pub invariant_of-self-lent : goal.invariant_of-self-lent
invariant_of-self-lent g c = λ lent.
    let ps = c.self.inside.sockets.items in
    let p = c.in_ok-storage.storage.now in
    let grows = c.self.inside.grows in
    let room = vec_capacity c.self.inside.sockets in
    let i = c.args.index in
    let marked = λ (q : Storage g.row.L.Denot).
    true_written grows room ps c.self.inside.busy c.set.new.self i q c.set.ensures.marked c.set.ensures.others c.self.invariant.0 in
    let keyed = λ (q : Storage g.row.L.Denot). keyed_written grows room ps c.self.inside.keys i q c.self.invariant.1 in (
      λ w. (
        marked (record { socket = Some w; wait = p.wait }),
        (rw c.set-2.ensures (keyed (record { socket = Some w; wait = p.wait }))),
        λ none. absurd cc,
      ),
      (marked p, (rw c.set-2.ensures (keyed p)), λ none. absurd cc),
    )
