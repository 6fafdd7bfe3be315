use Rattle.iface_tables.proofs.GroupsLaws as laws
use Rattle.iface_tables.proofs.groups.others_stay.Goals as goal

pub returns : goal.returns
returns c = laws.others_stay
