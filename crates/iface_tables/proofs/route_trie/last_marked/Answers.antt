use Rattle.std.proofs.Common.{refl}
use Rattle.iface_tables.proofs.RouteMaskLemmas.{empty_has, last_is}
use Rattle.iface_tables.proofs.route_trie.last_marked.Goals as goal

pub returns-then-mask-eq0 : goal.returns-then-mask-eq0
returns-then-mask-eq0 c = rw c.if-mask-eq0.true empty_has

pub returns : goal.returns
returns c = last_is c.args.mask _ c.if-mask-eq0.false c.ranges.mask.fits refl
