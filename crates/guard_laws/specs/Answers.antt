-- Answers to queries that wait behind a guard, and whose turn it is to ask for a neighbour.
use Rattle.std.specs.Prelude.{◌≡◌, ℕ, suc, ◌+◌, ◌≤◌, ◌≤ℤ◌, ℤ, pos, true, false, List, [], ◌∷◌, None, Some}
use Rattle.std.specs.FinMap as map
use Rattle.control_wire.specs.declared.igmp.IgmpVersion.{IgmpVersion}
use Rattle.ip_address.specs.declared.ip.IpAddress.{IpAddress}
use Rattle.ip_address.specs.declared.ipv6.Ipv6Address.{Ipv6Address}
use Rattle.iface_tables.specs.Neighbor.{Neighbors}
use Rattle.iface_tables.specs.declared.report.IgmpReportState.{IgmpReportState}
use Rattle.iface_tables.specs.declared.report.IgmpReportState.TheVariants as igmp
use Rattle.iface_tables.specs.declared.report.MldReportState.{MldReportState}
use Rattle.iface_tables.specs.declared.report.MldReportState.TheVariants as mld
use Rattle.guard.specs.Guard.{after_asking, is_turn_of_sockets}
use Rattle.guard.specs.Reports.{kept, kept_mld}
use Rattle.guard.specs.declared.guard.Guard.{Guard}

-- what a guard leaves of the answers that a host would have after some queries, one after another
abbrev pub left_of : IgmpReportState → List IgmpReportState → IgmpReportState
left_of waiting [] = waiting
left_of waiting (other ∷ later) = left_of (kept waiting other) later

abbrev pub left_of_mld : MldReportState → List MldReportState → MldReportState
left_of_mld waiting [] = waiting
left_of_mld waiting (other ∷ later) = left_of_mld (kept_mld waiting other) later

-- an answer to a general query of a version that comes no sooner, and reports no faster; or one about 224.0.0.1 (RFC 2236 3, 6)
pub data IsNoSooner (version : IgmpVersion) (at : ℤ) (pace : ℕ) : IgmpReportState → Type 0 where
  Later : (t : ℤ) (i n : ℕ) → at ≤ℤ t → pace ≤ i → IsNoSooner version at pace (igmp.ToGeneralQuery version t i n)
  AboutAllSystems : (other : IgmpVersion) (t : ℤ) → IsNoSooner version at pace (igmp.ToSpecificQuery other t (record { bits = 0xe0000001 }))

abbrev pub AreNoSooner : IgmpVersion → ℤ → ℕ → List IgmpReportState → Type 0
AreNoSooner version at pace [] = Unit {0}
AreNoSooner version at pace (other ∷ later) = IsNoSooner version at pace other × AreNoSooner version at pace later

-- However many queries come, none puts off the answer to a general query of which nothing was reported yet, or takes its place, unless
-- its own would come sooner
abbrev pub AnswersStay : Type 0
AnswersStay =
    (version : IgmpVersion) (at : ℤ) (pace : ℕ) (others : List IgmpReportState) → AreNoSooner version at pace others →
    left_of (igmp.ToGeneralQuery version at pace 0) others ≡ igmp.ToGeneralQuery version at pace 0

-- Of an answer of which something was reported, one of the same groups takes the place, so that what was reported comes again
abbrev pub LaterAnswersCount : Type 0
LaterAnswersCount =
    (version : IgmpVersion) (at t : ℤ) (pace i next : ℕ) →
    left_of (igmp.ToGeneralQuery version at pace (suc next)) (igmp.ToGeneralQuery version t i 0 ∷ []) ≡ igmp.ToGeneralQuery version t i 0

-- likewise of MLD, where one report has all groups, so that it answers any query (RFC 3810 6.2)
pub data IsNoSoonerMld (at : ℤ) : MldReportState → Type 0 where
  LaterGeneral : (t : ℤ) → at ≤ℤ t → IsNoSoonerMld at (mld.ToGeneralQuery t)
  LaterSpecific : (t : ℤ) (group : Ipv6Address) → at ≤ℤ t → IsNoSoonerMld at (mld.ToSpecificQuery group t)
  AboutAllNodes : (t : ℤ) → IsNoSoonerMld at (mld.ToSpecificQuery (record { bits = 0xff020000000000000000000000000001 }) t)

abbrev pub AreNoSoonerMld : ℤ → List MldReportState → Type 0
AreNoSoonerMld at [] = Unit {0}
AreNoSoonerMld at (other ∷ later) = IsNoSoonerMld at other × AreNoSoonerMld at later

abbrev pub ListenerAnswersStay : Type 0
ListenerAnswersStay =
    (at : ℤ) (others : List MldReportState) → AreNoSoonerMld at others → left_of_mld (mld.ToGeneralQuery at) others ≡ mld.ToGeneralQuery at

-- A request in response to a frame is followed by the turn of sockets for three seconds, as long as who was asked for isn't known, and the
-- clock goes back by no more than a minute; one of a socket isn't
abbrev pub TurnsAreTaken : Type 0
TurnsAreTaken =
    (at now : ℕ) (a : IpAddress) (known : Neighbors) (g : Guard) → g.takes_turns ≡ true → now ≤ at + 3000000 → at ≤ now + 60000000 →
    map.get known.known a ≡ None →
    (is_turn_of_sockets (pos now) known (after_asking (pos at) (Some a) true g) ≡ true)
    × (is_turn_of_sockets (pos now) known (after_asking (pos at) (Some a) false g) ≡ false)
