use Rattle.std.specs.Prelude.{vec_capacity}
use Rattle.std.proofs.Common.{sym, ap, ◌∙◌}
use Rattle.socket_set.specs.Details.Datagrams.{after_datagram, is_udp}
use Rattle.socket_set.specs.SocketSet.{Storage}
use Rattle.socket_set.proofs.SocketSetLemmas.{heard_port, keyed_heard, place_set, ported_here, ported_written, socket_is, true_heard}
use Rattle.socket_set.proofs.socket_set.SocketSetOf.process_udp.Goals as goal

pub invariant_of-self-2 : goal.invariant_of-self-2
invariant_of-self-2 g c =
    let ps = c.self.inside.sockets.items in
    let p = c.in-Some.storage.now in
    let i = c.args.index in
    let grows = c.self.inside.grows in
    let room = vec_capacity c.self.inside.sockets in
    let is = c.in-Some.ensures.value in
    let remote = c.args.remote in
    let payload = c.args.payload.now in
    let written : Storage g.row.L.Denot = record { socket = after_datagram remote payload p.socket; wait = p.wait } in
    rw c.process_udp.ensures.heard (
      true_heard grows room remote payload ps c.self.inside.busy i p is c.self.invariant.0,
      keyed_heard grows room remote payload ps c.self.inside.keys i p is c.self.invariant.1,
      λ none.
          let ported = c.self.invariant.2 none in
          ported_written grows room ps i written
          (heard_port grows room remote payload p.socket (ported_here grows room ps i p c.in-Some.ensures.item.3.0 is ported)) ported,
    )

pub returns-clause-there : goal.returns-clause-there
returns-clause-there g c =
    let here = socket_is c.self.inside.grows (vec_capacity c.self.inside.sockets) c.self.inside.sockets.items c.args.index
    c.in-Some.storage.now c.in-Some.ensures.item.3.0 c.in-Some.ensures.value in
    rw (← c.self.view_is) (c.process_udp.ensures.there ∙ ap is_udp (sym here))

pub returns-clause-heard : goal.returns-clause-heard
returns-clause-heard g c =
    let ps = c.self.inside.sockets.items in
    let p = c.in-Some.storage.now in
    let grows = c.self.inside.grows in
    let room = vec_capacity c.self.inside.sockets in
    let is = c.in-Some.ensures.value in
    let here = socket_is grows room ps c.args.index p c.in-Some.ensures.item.3.0 is in
    rw (← c.self.view_is, here, c.process_udp.ensures.heard)
    (place_set grows room ps c.args.index p (after_datagram c.args.remote c.args.payload.now p.socket) is)
