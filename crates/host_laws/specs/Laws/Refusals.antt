-- A call that sends, on a device that grants no transmit token: what is pending stays pending.
use Rattle.std.specs.Prelude.{◌≡◌, ℕ, ℤ, ◌&&◌, Bool, false, is_none, List, []}
use Rattle.std.specs.Prelude.{slice_get, Option, Some, None, if◌then◌else◌}
use Rattle.std.specs.List.{list_any}
use Rattle.net_base.specs.Device.{Event, grants, sent_frames}
use Rattle.iface_tables.specs.declared.groups.Group.{Group}
use Rattle.iface_tables.specs.declared.report.IgmpReportState.{IgmpReportState}
use Rattle.iface_tables.specs.declared.report.IgmpReportState.TheVariants as igmp
use Rattle.iface_tables.specs.declared.report.MldReportState.{MldReportState}
use Rattle.iface_tables.specs.declared.report.MldReportState.TheVariants as mld
use Rattle.host_machine.specs.declared.results.PollResult.{PollResult}
use Rattle.host_machine.specs.declared.results.PollResult.TheVariants as result
use Rattle.host_machine.specs.Context.Note.{Note}
use Rattle.host_machine.specs.Context.Host.{Host, Socket, SocketSet, Storage, at, with_groups}
use Rattle.host_machine.specs.Context.Addresses.{ipv4_addr}
use Rattle.host_machine.specs.Multicast.Timeout.{has_passed}
use Rattle.host_machine.specs.Multicast.Mld.{mld_timeout_of}
use Rattle.host_machine.specs.Multicast.Igmp.{next_group, igmp_timeout_of}
use Rattle.host_machine.specs.Interface.Egress.{Egress}
use Rattle.host_machine.specs.Sockets.Offers.{socket_after_asking}

-- whether the device granted a transmit token
abbrev pub grants_any : List Event → Bool
grants_any told = list_any (λ given. given) (grants told)

-- an IGMP report stays pending, unless there is no further group to report
abbrev pub waiting_igmp : Host → IgmpReportState
waiting_igmp H = if has_passed (igmp_timeout_of H.igmp_report) H.moment
    && is_none (next_group H H.igmp_report) then igmp.Inactive else H.igmp_report

-- an MLD report that is due is dropped
abbrev pub waiting_mld : Host → MldReportState
waiting_mld H = if has_passed (mld_timeout_of H.mld_report) H.moment then mld.Inactive else H.mld_report

-- an entry whose socket was at most asked
pub data IsOnlyAsked (H : Host) (before after : Option Storage) : Type 0 where
  NotAsked : after ≡ before → IsOnlyAsked H before after
  WasAsked : (s : Socket) →
      before ≡ Some (Some s) → after ≡ Some (Some (socket_after_asking H s)) → IsOnlyAsked H before after

-- what remains of a host: nothing else changes; the groups of a host with an IPv4 address, which can report each of
-- them, are still unreported; and the socket at each index is unchanged, or as it is after it was asked
pub record StillWaits (H new : Host) : Type 0 where
  pub groups : List Group
  pub sockets : SocketSet
  pub host : new ≡ record H {
    groups = groups;
    igmp_report = waiting_igmp (with_groups H groups);
    mld_report = waiting_mld H;
    sockets = sockets;
  }
  pub untold : (ipv4_addr H.ip_addrs ≡ None → ⊥) → groups ≡ H.groups
  pub queued : (i : ℕ) → IsOnlyAsked H (slice_get H.sockets.places i) (slice_get sockets.places i)

-- nothing is sent and nothing noted, and what is pending stays pending
pub record LosesNothing (H : Host) (answer : PollResult) (told : List Event)
    (notes : List Note) (new : Host) : Type 0 where
  pub answers : answer ≡ result.None
  pub silent : sent_frames told ≡ []
  pub unnoted : notes ≡ []
  pub waits : StillWaits H new

-- without transmit tokens this stays pending; an MLD report that is due is dropped
abbrev pub RefusalsLoseNothing : Type 0
RefusalsLoseNothing =
    (t : ℤ) (answer : PollResult) (old new : Host) (told : List Event) (notes : List Note) →
    Egress t answer old told notes new → grants_any told ≡ false → LosesNothing (at old t) answer told notes new
