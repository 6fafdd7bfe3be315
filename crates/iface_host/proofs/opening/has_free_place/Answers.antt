use Rattle.std.proofs.Common.{◌≡◌, false}
use Rattle.std.specs.Prelude.{is_some}
use Rattle.iface_host.proofs.Places.{copied_none, has_none, has_one}
use Rattle.iface_host.proofs.opening.has_free_place.Goals as goal

pub returns-then-is_none : goal.returns-then-is_none
returns-then-is_none c =
    let none : is_some c.socket.result ≡ false = c.if-is_none.ensures in
    has_one c.args.sockets.now c.loop-index.index c.places-index-end.result _ c.places-index-end.ensures c.loop-index-test.true c.socket.ensures
    (copied_none c.socket.result none)

pub returns : goal.returns
returns c =
    has_none c.args.sockets.now c.loop-index.index c.places-index-end.result c.places-index-end.ensures c.loop-index-test.false c.loop-index.invariant
