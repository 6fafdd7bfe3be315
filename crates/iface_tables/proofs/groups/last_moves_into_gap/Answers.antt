use Rattle.iface_tables.proofs.GroupsLaws as laws
use Rattle.iface_tables.proofs.groups.last_moves_into_gap.Goals as goal

pub returns : goal.returns
returns c = record { moves = laws.last_moves; alone = laws.last_goes }
