use Rattle.std.proofs.Common.{true}
use Rattle.iface_tables.specs.declared.groups.GroupState.TheVariants.{Leaving}
use Rattle.iface_tables.specs.Groups.{count_in, leave_reported}
use Rattle.host_machine.specs.Multicast.Joins.{leave_packet}
use Rattle.iface_send.specs.Offered.{HasPart}
use Rattle.iface_context.specs.Refines.{RefinesTelling}
use Rattle.iface_multicast.proofs.JoinReports.{ReportsSo}
use Rattle.iface_multicast.proofs.joins.leaves_egress.Given as goal

abbrev pub invariant-loop-group : goal.invariant-loop-group
invariant-loop-group g l =
    RefinesTelling g.D.Device.tells l.fn.device l.device (HasPart (ReportsSo Leaving leave_packet leave_reported true) l.fn.context) l.context

abbrev pub decreases-loop-group : goal.decreases-loop-group
decreases-loop-group g l = count_in Leaving l.context.multicast.groups
