use Rattle.iface_tables.proofs.GroupsLaws as laws
use Rattle.iface_tables.proofs.groups.groups_stay_distinct.Goals as goal

pub returns : goal.returns
returns c = laws.stay_distinct
