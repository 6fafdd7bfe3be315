use Rattle.iface_tables.proofs.SlaacLemmas.{in_range_by}
use Rattle.iface_tables.proofs.slaac.cidr_from.Goals as goal

pub returns : goal.returns
returns c = in_range_by c.args.address c.args.prefix_len _
