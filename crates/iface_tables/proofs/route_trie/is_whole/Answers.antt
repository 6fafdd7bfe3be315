use Rattle.std.proofs.Common.{sym, ◌∙◌}
use Rattle.std.proofs.lemmas.Bool.{eq-eqb}
use Rattle.iface_tables.proofs.RouteTrieLemmas.{whole_root}
use Rattle.iface_tables.proofs.route_trie.is_whole.Goals as goal

pub returns-then-network-eq0 : goal.returns-then-network-eq0
returns-then-network-eq0 c =
    eq-eqb _ _ c.if-network-eq0.true ∙ sym (whole_root c.args.beginning.now c.args.network.now c.if-network-eq0.true c.if-network-beginning-2.false
    c.if-network-beginning.false c.requires.fits c.requires.root)
