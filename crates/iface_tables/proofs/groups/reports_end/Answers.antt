use Rattle.iface_tables.proofs.GroupsCounts as counts
use Rattle.iface_tables.proofs.groups.reports_end.Goals as goal

pub returns : goal.returns
returns c = record { joins = counts.join_reports_end; leaves = counts.leave_reports_end; none = counts.none_left }
