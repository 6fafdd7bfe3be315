use Rattle.std.specs.Prelude.{vec_capacity}
use Rattle.socket_set.specs.Details.Busy.{IsIdle}
use Rattle.socket_set.specs.SocketSet.{over}
use Rattle.socket_set.proofs.SocketSetLemmas.{idle_is, keyed_learnt, true_cleared}
use Rattle.socket_set.proofs.socket_set.SocketSetOf.rest.Goals as goal

pub invariant_of-self : goal.invariant_of-self
invariant_of-self g c =
    let found = rw c.deref.ensures.value at c.in-Some.ensures.lookup in
    let ps = c.self.inside.sockets.items in
    let p = c.in-Some.storage.now in
    let grows = c.self.inside.grows in
    let room = vec_capacity c.self.inside.sockets in
    let idle : IsIdle (over ps grows room) c.args.index =
    idle_is grows room ps c.args.index p found.3.0 found.1 (c.is_busy.ensures c.if-is_busy.false) in
    let keyed =
    keyed_learnt grows room ps c.self.inside.keys c.args.index p c.key-key.result found.3.0 found.1 c.key-key.ensures c.self.invariant.1 in (
      true_cleared grows room ps c.self.inside.busy c.clear.new.self c.args.index idle c.clear.ensures.others c.self.invariant.0,
      (rw c.set.ensures keyed),
      c.self.invariant.2,
    )
