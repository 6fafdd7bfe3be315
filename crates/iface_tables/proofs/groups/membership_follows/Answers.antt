use Rattle.iface_tables.proofs.GroupsLaws as laws
use Rattle.iface_tables.proofs.groups.membership_follows.Goals as goal

pub returns : goal.returns
returns c = record { join = laws.joins_member; leave = laws.leaves_no_member }
