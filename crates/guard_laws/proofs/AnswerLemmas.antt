-- Answers to queries that wait, and whose turn it is.
use Rattle.std.proofs.Common.{◌≡◌, ◌+◌, ℕ, Bool, true, false, [], ◌∷◌, refl, arith, suc}
use Rattle.std.specs.Prelude.{ℤ, ◌<ℤ◌, ◌≤ℤ◌, ◌==◌, ◌&&◌, ◌||◌, nat_le, nat_lt, if◌then◌else◌}
use Rattle.std.proofs.lemmas.Bool.Decides.{nat_tests}
use Rattle.std.proofs.lemmas.Int.{ints}
use Rattle.std.specs.Cmp.{int_ranks}
use Rattle.std.specs.Ordering.{int_cmp, is_le, MatchOrdering}
use Rattle.std.specs.declared.cmp.Ordering.{Ordering}
use Rattle.std.specs.declared.cmp.Ordering.TheVariants.{Less, Equal, Greater}
use Rattle.control_wire.specs.declared.igmp.IgmpVersion.{IgmpVersion}
use Rattle.control_wire.specs.declared.igmp.IgmpVersion.TheVariants.{Version1, Version2}
use Rattle.iface_tables.specs.declared.report.IgmpReportState.{IgmpReportState}
use Rattle.iface_tables.specs.declared.report.IgmpReportState.TheVariants as igmp
use Rattle.iface_tables.specs.declared.report.MldReportState.{MldReportState}
use Rattle.iface_tables.specs.declared.report.MldReportState.TheVariants as mld
use Rattle.guard.specs.Reports.{is_by, is_same_version, kept, kept_mld}
use Rattle.guard_laws.specs.Answers.{AboutAllNodes, AboutAllSystems, AnswersStay, IsNoSooner, IsNoSoonerMld, Later, LaterGeneral, LaterSpecific}
use Rattle.guard_laws.specs.Answers.{ListenerAnswersStay, LaterAnswersCount, TurnsAreTaken}

ranked_le : (t end : ℤ) (o : Ordering) → MatchOrdering o (t <ℤ end) (t ≡ end) (end <ℤ t) → t ≤ℤ end → is_le o ≡ true
ranked_le t end Less m le = refl
ranked_le t end Equal m le = refl
ranked_le t end Greater m le = absurd (omega (arith, ints))

by_then : (t end : ℤ) → t ≤ℤ end → is_by t end ≡ true
by_then t end le = ranked_le t end (int_cmp t end) (int_ranks t end) le

same_version : (v : IgmpVersion) → is_same_version v v ≡ true
same_version Version1 = refl
same_version Version2 = refl

stays : (v : IgmpVersion) (at : ℤ) (pace : ℕ) (other : IgmpReportState) → IsNoSooner v at pace other →
    kept (igmp.ToGeneralQuery v at pace 0) other ≡ igmp.ToGeneralQuery v at pace 0
stays v at pace other (Later t i n late slow) =
    let is : nat_le pace i ≡ true = grind (arith, nat_tests) in
    let first : nat_le 0 n ≡ true = grind (arith, nat_tests) in
    rw (same_version v, by_then at t late, is, first) refl
stays v at pace other (AboutAllSystems w t) = refl

pub answers_stay : AnswersStay
answers_stay v at pace [] all = refl
answers_stay v at pace (other ∷ later) (one, rest) = rw (stays v at pace other one) (answers_stay v at pace later rest)

pub later_answers_count : LaterAnswersCount
later_answers_count v at t pace i next =
    by (is_same_version v v) (is_by at t) (nat_le pace i) where
      behind : nat_le (suc next) 0 ≡ false
      behind = grind (arith, nat_tests)

      by : (a b c : Bool) → (if a && b && c && nat_le (suc next) 0 then igmp.ToGeneralQuery v at pace (suc next) else igmp.ToGeneralQuery v t i 0)
          ≡ igmp.ToGeneralQuery v t i 0
      by true true true = rw behind refl
      by true true false = refl
      by true false c = refl
      by false b c = refl

stays_mld : (at : ℤ) (other : MldReportState) → IsNoSoonerMld at other → kept_mld (mld.ToGeneralQuery at) other ≡ mld.ToGeneralQuery at
stays_mld at other (LaterGeneral t late) = rw (by_then at t late) refl
stays_mld at other (LaterSpecific t group late) = by (group.bits == 0xff020000000000000000000000000001) where
  by : (d : Bool) → (if d || is_by at t then mld.ToGeneralQuery at else mld.ToSpecificQuery group t) ≡ mld.ToGeneralQuery at
  by true = refl
  by false = rw (by_then at t late) refl
stays_mld at other (AboutAllNodes t) = refl

pub listener_answers_stay : ListenerAnswersStay
listener_answers_stay at [] all = refl
listener_answers_stay at (other ∷ later) (one, rest) = rw (stays_mld at other one) (listener_answers_stay at later rest)

pub turns_are_taken : TurnsAreTaken
turns_are_taken at now a known g takes soon back none =
    let recent : nat_le now (at + 3000000) ≡ true = grind (arith, nat_tests) in
    let ahead : nat_lt (now + 60000000) at ≡ false = grind (arith, nat_tests) in
    (rw (takes, recent, ahead, none) refl, rw takes refl)
