-- The interval between reports of groups, and which report is next.
use Rattle.std.specs.Prelude.{ℕ}
use Rattle.iface_tables.specs.declared.report.IgmpReportState.{IgmpReportState}
use Rattle.iface_tables.specs.declared.report.IgmpReportState.TheVariants.{Inactive, ToGeneralQuery, ToSpecificQuery}

-- the interval between two reports, in microseconds; after the report of a specific query there is none
abbrev pub interval_of : IgmpReportState → ℕ
interval_of Inactive = 0
interval_of (ToGeneralQuery version timeout interval next_index) = interval
interval_of (ToSpecificQuery version timeout group) = 0

-- the index of the next group to be reported among the IPv4 groups
abbrev pub index_of : IgmpReportState → ℕ
index_of Inactive = 0
index_of (ToGeneralQuery version timeout interval next_index) = next_index
index_of (ToSpecificQuery version timeout group) = 0
