use Rattle.std.proofs.Common.{◌∙◌, sym}
use Rattle.iface_tables.proofs.RouteLemmas.{all_live}
use Rattle.iface_tables.proofs.route.live_mask.Goals as goal

pub returns-then-is_until : goal.returns-then-is_until
returns-then-is_until c = all_live c.args.routes.now c.args.first_end c.args.timestamp c.requires.few c.requires.end (sym c.is_until.ensures ∙ c.if-is_until.true)
