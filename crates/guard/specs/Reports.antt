-- Answers to queries of IGMP and MLD that wait, and where they stay: a later query doesn't put off what waits, nor take its place.
use Rattle.std.specs.Prelude.{◌==◌, ◌&&◌, ◌||◌, nat_le, ℤ, Bool, true, false, if◌then◌else◌}
use Rattle.std.specs.Ordering.{int_cmp, is_le}
use Rattle.control_wire.specs.declared.igmp.IgmpVersion.{IgmpVersion}
use Rattle.control_wire.specs.declared.igmp.IgmpVersion.TheVariants.{Version1, Version2}
use Rattle.iface_tables.specs.declared.report.IgmpReportState.{IgmpReportState}
use Rattle.iface_tables.specs.declared.report.IgmpReportState.TheVariants as igmp
use Rattle.iface_tables.specs.declared.report.MldReportState.{MldReportState}
use Rattle.iface_tables.specs.declared.report.MldReportState.TheVariants as mld

-- an instant is no later than another one
abbrev pub is_by : ℤ → ℤ → Bool
is_by t end = is_le (int_cmp t end)

abbrev pub is_same_version : IgmpVersion → IgmpVersion → Bool
is_same_version Version1 Version1 = true
is_same_version Version1 Version2 = false
is_same_version Version2 Version1 = false
is_same_version Version2 Version2 = true

-- an answer has still to report what another one of its version reports, each group no later (RFC 2236 3)
abbrev pub covers : (waiting other : IgmpReportState) → Bool
covers igmp.Inactive other = false
covers (igmp.ToGeneralQuery v t i n) igmp.Inactive = false
covers (igmp.ToGeneralQuery v t i n) (igmp.ToGeneralQuery v' t' i' n') =
    is_same_version v v' && is_by t t' && nat_le i i' && nat_le n n'
covers (igmp.ToGeneralQuery v t i n) (igmp.ToSpecificQuery v' t' g') = false
covers (igmp.ToSpecificQuery v t g) igmp.Inactive = false
covers (igmp.ToSpecificQuery v t g) (igmp.ToGeneralQuery v' t' i' n') = false
covers (igmp.ToSpecificQuery v t g) (igmp.ToSpecificQuery v' t' g') = is_same_version v v' && is_by t t' && (g.bits == g'.bits)

-- likewise of MLD, where one report has all groups (RFC 3810 6.2)
abbrev pub covers_mld : (waiting other : MldReportState) → Bool
covers_mld mld.Inactive other = false
covers_mld (mld.ToGeneralQuery t) mld.Inactive = false
covers_mld (mld.ToGeneralQuery t) (mld.ToGeneralQuery t') = is_by t t'
covers_mld (mld.ToGeneralQuery t) (mld.ToSpecificQuery g' t') = is_by t t'
covers_mld (mld.ToSpecificQuery g t) mld.Inactive = false
covers_mld (mld.ToSpecificQuery g t) (mld.ToGeneralQuery t') = false
covers_mld (mld.ToSpecificQuery g t) (mld.ToSpecificQuery g' t') = is_by t t' && (g.bits == g'.bits)

-- it is about 224.0.0.1, the group of all hosts, which no host reports (RFC 2236 6)
abbrev pub is_idle : IgmpReportState → Bool
is_idle igmp.Inactive = false
is_idle (igmp.ToGeneralQuery v t i n) = false
is_idle (igmp.ToSpecificQuery v t g) = g.bits == 0xe0000001

-- or about ff02::1, that of all nodes, which no node reports (RFC 3810 6)
abbrev pub is_idle_mld : MldReportState → Bool
is_idle_mld mld.Inactive = false
is_idle_mld (mld.ToGeneralQuery t) = false
is_idle_mld (mld.ToSpecificQuery g t) = g.bits == 0xff020000000000000000000000000001

-- what waits after a frame, by what waited before it and what the host would have after it
abbrev pub kept : (before after : IgmpReportState) → IgmpReportState
kept before after = if is_idle after || covers before after then before else after

abbrev pub kept_mld : (before after : MldReportState) → MldReportState
kept_mld before after = if is_idle_mld after || covers_mld before after then before else after
