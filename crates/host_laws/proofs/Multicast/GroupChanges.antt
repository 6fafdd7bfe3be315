-- What a join and a leave change of a host.
use Rattle.std.proofs.Common.{◌≡◌, List}
use Rattle.iface_tables.specs.declared.groups.Group.{Group}
use Rattle.host_machine.specs.Context.Host.{Host, with_groups}
use Rattle.host_machine.specs.Multicast.Joins.{JoinsGroup, LeavesGroup, NoGroup, NoPlace, JoinTaken, NoGroupEither, LeaveTaken}

pub join_groups : {group : _} {answer : _} {old new : Host} → JoinsGroup group answer old new → (groups : List Group) × (new ≡ with_groups old groups)
join_groups {old = old} (NoGroup m r e) = (old.groups, e)
join_groups {old = old} (NoPlace m f r e) = (old.groups, e)
join_groups (JoinTaken m f r e) = (_, e)

pub leave_groups : {group : _} {answer : _} {old new : Host} →
    LeavesGroup group answer old new → (groups : List Group) × (new ≡ with_groups old groups)
leave_groups {old = old} (NoGroupEither m r e) = (old.groups, e)
leave_groups (LeaveTaken m r e) = (_, e)
