use borrow.Follows.Closed.{read_of}
use Rattle.std.proofs.Common.{Some}
use Rattle.std.specs.Option.{ghost_name_of}
use Rattle.socket_set.specs.SocketSet.{Storage}
use Rattle.socket_set.proofs.SocketSetLemmas.{ported_for, stands_for}
use Rattle.socket_set.proofs.socket_set.SocketStorageOf.kind_mut.Goals as goal

pub returns : goal.returns
returns g c =
    let place = c.args.self.now in
    let back : (w : g.row.T.Denot) → Storage g.row.L.Denot = λ w. record place { socket = Some (g.T.AnySocketOf.up w) } in
    let here = c.in_ok-socket.ensures.value in (
      λ t. read_of (ghost_name_of c.downcast_mut.result) back (record { socket = here t; wait = place.wait }),
      record {
        lends = tt;
        value = rw (← here) c.downcast_mut.ensures.value;
        whole = stands_for g.T.AnySocketOf.up _ here c.downcast_mut.ensures.whole;
        ports = ported_for g.T.AnySocketOf.up _ here c.downcast_mut.ensures.ports;
      },
    )
