use Rattle.std.specs.Prelude.{vec_capacity}
use borrow.Follows.Closed.{read_of}
use Rattle.std.proofs.Common.{Some, ap, inr}
use Rattle.std.specs.Option.{ghost_name_of}
use Rattle.socket_set.specs.SocketSet.{Storage}
use Rattle.socket_set.proofs.SocketSetLemmas.{keyed_written, kept_port, place_set, ported_here, ported_written, put_again, socket_is, true_written}
use Rattle.socket_set.proofs.socket_set.SocketSetOf.kind_mut.Goals as goal

pub returns : goal.returns
returns g c =
    let ps = c.self.inside.sockets.items in
    let i = c.args.index in
    let p = c.in_ok-storage.storage.now in
    let grows = c.self.inside.grows in
    let room = vec_capacity c.self.inside.sockets in
    let is = c.in_ok-storage.ensures.value in
    let here = socket_is grows room ps i p c.in_ok-storage.ensures.item.3.0 is in
    rw (← c.self.view_is) (
      λ t. read_of (ghost_name_of (Some c.in_ok-socket.socket))
          (λ w. place_set grows room ps i p (Some (g.T.AnySocketOf.up w)) is t) (put_again grows room ps i p is t),
      record { lends = tt; value = rw here c.in_ok-socket.ensures.value; whole = rw here c.in_ok-socket.ensures.whole },
    )

pub returns-in_err-socket : goal.returns-in_err-socket
returns-in_err-socket g c =
    let ps = c.self.inside.sockets.items in
    let i = c.args.index in
    let p = c.in_ok-storage.storage.now in
    let grows = c.self.inside.grows in
    let room = vec_capacity c.self.inside.sockets in
    let is = c.in_ok-storage.ensures.value in
    let here = socket_is grows room ps i p c.in_ok-storage.ensures.item.3.0 is in
    rw (← c.self.view_is, c.from_residual-in_err-socket.ensures)
    (ap inr (put_again grows room ps i p is), record { lends = tt; value = rw here c.in_err-socket.ensures.value; whole = tt })

pub invariant_of-self-lent : goal.invariant_of-self-lent
invariant_of-self-lent g c = λ w.
    let ps = c.self.inside.sockets.items in
    let i = c.args.index in
    let p = c.in_ok-storage.storage.now in
    let grows = c.self.inside.grows in
    let room = vec_capacity c.self.inside.sockets in
    let is = c.in_ok-storage.ensures.value in
    let written : Storage g.row.L.Denot = record { socket = Some (g.T.AnySocketOf.up w); wait = p.wait } in (
      true_written grows room ps c.self.inside.busy c.set.new.self i written c.set.ensures.marked c.set.ensures.others c.self.invariant.0,
      (rw c.set-2.ensures (keyed_written grows room ps c.self.inside.keys i written c.self.invariant.1)),
      λ none.
          let ported = c.self.invariant.2 none in
          let here = ported_here grows room ps i p c.in_ok-storage.ensures.item.3.0 is ported in
          ported_written grows room ps i written
          (kept_port p.socket (g.T.AnySocketOf.up w) _ c.in_ok-socket.ensures.whole (c.in_ok-socket.ensures.ports w) here) ported,
    )
