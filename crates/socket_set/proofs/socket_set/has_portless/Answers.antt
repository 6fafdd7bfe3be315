use Rattle.std.proofs.Common.{false}
use Rattle.socket_set.proofs.SocketSetLemmas.{all_ported, one_ported}
use Rattle.socket_set.proofs.socket_set.has_portless.Goals as goal

pub loop-index-preserved : goal.loop-index-preserved
loop-index-preserved g c =
    one_ported false 0 c.args.places.now c.loop-index.index c.index-places-index.result c.loop-index-test.true c.index-places-index.is
    c.loop-index.invariant (c.is_portless.ensures c.if-is_portless.false)

pub returns : goal.returns
returns g c = λ none. all_ported false 0 c.args.places.now c.loop-index.index c.loop-index-test.false c.loop-index.invariant
