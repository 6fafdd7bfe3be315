-- Nothing spins: a poll after which something is still due did some of the work that the host had, so there are only so
-- many of them.
use Rattle.std.specs.Prelude.{◌≡◌, ℕ, ◌+◌, ◌-◌, ◌*◌, ◌≤◌, ◌<◌, ℤ, ◌≤ℤ◌, true, List, [], ◌∷◌, ◌++◌, length, drop}
use Rattle.std.specs.Prelude.{slice_get, Option, Some, None}
use Rattle.std.specs.List.{AllByRecursion}
use Rattle.net_base.specs.Checksum.{ip_mtu_of}
use Rattle.net_base.specs.Device.{Event, handed_frames}
use Rattle.iface_tables.specs.declared.groups.Group.{Group}
use Rattle.iface_tables.specs.declared.report.IgmpReportState.{IgmpReportState}
use Rattle.iface_tables.specs.declared.report.IgmpReportState.TheVariants as igmp
use Rattle.iface_tables.specs.Groups.{ipv4_groups}
use Rattle.host_machine.specs.declared.command.Command.TheVariants.{Poll}
use Rattle.host_machine.specs.declared.results.PollResult.{PollResult}
use Rattle.host_machine.specs.Context.Note.{Note}
use Rattle.host_machine.specs.Context.Host.{Host, Storage, at}
use Rattle.host_machine.specs.Interface.Egress.{Egress}
use Rattle.host_machine.specs.Interface.Due.{Due}
use Rattle.host_machine.specs.Interface.Polling.{Polls}
use Rattle.host_machine.specs.Interface.Run.{Transition, Run}
use Rattle.host_laws.specs.Laws.Service.{all_granted, waiting_in}
use Rattle.host_machine.specs.Context.Real.{IsSound}

-- the number of packets that the entry of a socket set has to send
abbrev pub queued_in : Storage → ℕ
queued_in None = 0
queued_in (Some s) = waiting_in s

-- at an index of a host's socket set
abbrev pub queued_if : Option Storage → ℕ
queued_if None = 0
queued_if (Some entry) = queued_in entry

abbrev pub queued_at : Host → ℕ → ℕ
queued_at H i = queued_if (slice_get H.sockets.places i)

-- in all entries together
abbrev pub queued : List Storage → ℕ
queued [] = 0
queued (entry ∷ entries) = queued_in entry + queued entries

-- the number of groups that the pending IGMP answer has still to name: for a general query the IPv4 groups from the
-- next one on (RFC 2236 3)
abbrev pub to_name : List Group → IgmpReportState → ℕ
to_name groups igmp.Inactive = 0
to_name groups (igmp.ToGeneralQuery version timeout interval next_index) = length (ipv4_groups groups) - next_index
to_name groups (igmp.ToSpecificQuery version timeout group) = 1

-- the work of a host, as a number: eight for each packet in a queue of a socket, as it may be sent in that many
-- fragments; one for each pending fragment; and one for each group that is still to be named
abbrev pub work : Host → ℕ
work H = 8 * queued H.sockets.places + length H.left + to_name H.groups H.igmp_report

-- a call that sends puts no packet into a queue; and where none leaves one, the pending fragments are those without the
-- first
pub record OnlyShrinks (old new : Host) : Type 0 where
  pub queues : (i : ℕ) → queued_at new i ≤ queued_at old i
  pub pieces : ((i : ℕ) → queued_at new i ≡ queued_at old i) → new.left ≡ drop 1 old.left

-- so it is, if every transmit token is granted
abbrev pub QueuesOnlyShrink : Type 0
QueuesOnlyShrink =
    (t : ℤ) (answer : PollResult) (old new : Host) (told : List Event) (notes : List Note) →
    Egress t answer old told notes new → all_granted told ≡ true → 576 ≤ ip_mtu_of old.capabilities →
    OnlyShrinks old new

-- a poll with a budget, without frames received and with every transmit token granted, after which something is still
-- due, leaves less work than there was
abbrev pub PollsMakeProgress : Type 0
PollsMakeProgress =
    (t : ℤ) (budget : ℕ) (answer : PollResult) (old new : Host) (told : List Event) (notes : List Note) (x : ℤ) →
    Polls t budget answer old told notes new → 1 ≤ budget → handed_frames told ≡ [] → all_granted told ≡ true →
    IsSound old → Due (at new t) x → x ≤ℤ t → work new < work old

-- such a poll at t, after which something is due at t or before
pub record LeavesWorkDue (t : ℤ) (p : Transition) : Type 0 where
  pub budget : ℕ
  pub poll : p.command ≡ Poll t budget
  pub some : 1 ≤ budget
  pub no_frame : handed_frames p.told ≡ []
  pub granted : all_granted p.told ≡ true
  pub instant : ℤ
  pub due : Due (at p.after t) instant
  pub by_now : instant ≤ℤ t

-- there are at most as many of them, one after another, as the host had work: the next poll at the same moment is one
-- after which nothing is due
abbrev pub PollsComeToRest : Type 0
PollsComeToRest = (t : ℤ) (first last : Host) (transitions : List Transition) →
    Run first transitions last → AllByRecursion (LeavesWorkDue t) transitions → IsSound first →
    length transitions + work last ≤ work first

-- from each transition of a run on: polls at one moment, one after another, after each of which something is due at it,
-- are at most as many as the host had work before the first
abbrev pub ComeToRest : List Transition → Type 0
ComeToRest [] = Unit {0}
ComeToRest (p ∷ ps) = (
    IsSound p.before → (t : ℤ) (busy others : List Transition) → p ∷ ps ≡ busy ++ others →
    AllByRecursion (LeavesWorkDue t) busy → length busy ≤ work p.before
    ) × ComeToRest ps

abbrev pub RunsComeToRest : Type 0
RunsComeToRest = (first last : Host) (transitions : List Transition) →
    Run first transitions last → ComeToRest transitions
