use Rattle.std.proofs.Common.{true}
use Rattle.iface_tables.specs.declared.groups.GroupState.TheVariants.{Joining}
use Rattle.iface_tables.specs.Groups.{count_in, join_reported}
use Rattle.host_machine.specs.Multicast.Joins.{join_packet}
use Rattle.iface_send.specs.Offered.{HasPart}
use Rattle.iface_context.specs.Refines.{RefinesTelling}
use Rattle.iface_multicast.proofs.JoinReports.{ReportsSo}
use Rattle.iface_multicast.proofs.joins.joins_egress.Given as goal

abbrev pub invariant-loop-group : goal.invariant-loop-group
invariant-loop-group g l =
    RefinesTelling g.D.Device.tells l.fn.device l.device (HasPart (ReportsSo Joining join_packet join_reported true) l.fn.context) l.context

abbrev pub decreases-loop-group : goal.decreases-loop-group
decreases-loop-group g l = count_in Joining l.context.multicast.groups
