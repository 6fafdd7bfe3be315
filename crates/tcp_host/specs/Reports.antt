-- What messages of ICMP say of the connections of a host (RFC 9293 3.9.2.2), and what the link says of a peer.
use Rattle.std.specs.Prelude.{◌≡◌, ℕ, zero, suc, ◌&&◌, nat_le, Bool, false, true, Option, Some, None, if◌then◌else◌}
use Rattle.ip_address.specs.declared.ip.IpAddress.{IpAddress}
use Rattle.sockets.specs.Source.{is_same}
use Rattle.tcp_machine.specs.Reports.{after_too_long, after_unreachable}
use Rattle.tcp_machine.specs.States.{is_opening}
use Rattle.tcp_machine.specs.declared.timers.Ending.{Ending}
use Rattle.tcp_machine.specs.declared.timers.Ending.TheVariants as ending
use Rattle.tcp_connection.specs.Asked.{is_unacknowledged}
use Rattle.tcp_host.specs.declared.iss.Endpoints.{Endpoints}
use Rattle.tcp_host.specs.declared.reports.Report.{Report}
use Rattle.tcp_host.specs.declared.reports.Report.TheVariants.{TooLong, Hard, Soft}
use Rattle.tcp_host.specs.declared.slot.Slot.{Slot}
use Rattle.tcp_host.specs.Table.{ends_at, IsNowhere, IsPlaceOf}
use Rattle.tcp_host.specs.Host.{Host, connection_at, slot_at, with_slot}
use Rattle.tcp_host.specs.Handles.{changed}

-- it is kept when it was said last that the peer can't be reached
abbrev pub noted : (now place : ℕ) → Host → Host
noted now place h = with_slot place (record (slot_at place h) { reported = Some now }) h

-- what a message changes of the connection at a place
abbrev pub reported : (now : ℕ) → Report → (place : ℕ) → Host → Host
reported now (TooLong size) place h = changed place (after_too_long size (connection_at place h)) h
reported now Hard place h = changed place (after_unreachable (connection_at place (noted now place h))) (noted now place h)
reported now Soft place h = noted now place h

-- It counts if it quotes a segment that isn't acknowledged (RFC 5927 4.1)
abbrev pub reported_of : (now number : ℕ) → Report → (place : ℕ) → Host → Host
reported_of now number report place h =
    if is_unacknowledged number (connection_at place h) then reported now report place h else h

-- The link doesn't reach an address: that ends each connection which is being opened to it
abbrev pub is_to : IpAddress → Option Endpoints → Bool
is_to address None = false
is_to address (Some e) = is_same e.remote_addr address

abbrev pub lost_at : (now : ℕ) → IpAddress → (place : ℕ) → Host → Host
lost_at now address place h =
    if is_to address (ends_at h.ends place) && is_opening (connection_at place h).state then reported now Hard place h else h

abbrev pub lost : (now : ℕ) → IpAddress → (n : ℕ) → Host → Host
lost now address zero h = h
lost now address (suc n) h = lost_at now address n (lost now address n h)

-- a message quotes a segment of this number between these ends
pub data Reports (now : ℕ) (e : Endpoints) (number : ℕ) (report : Report) (old new : Host) : Type 0 where
  AtPlace : (place : ℕ) → IsPlaceOf e old.ends place → new ≡ reported_of now number report place old → Reports now e number report old new
  Nowhere : IsNowhere e old.ends → new ≡ old → Reports now e number report old new

-- Why a connection ended. Where nothing came any more after a message that the peer can't be reached, that is why (RFC 1122 4.2.3.9)
abbrev pub is_timed_out : Option Ending → Bool
is_timed_out (Some ending.TimedOut) = true
is_timed_out e = false

abbrev pub is_after : Option ℕ → ℕ → Bool
is_after None heard = false
is_after (Some at) heard = nat_le heard at

abbrev pub ending_of : Slot → Option Ending
ending_of s =
    if is_timed_out s.connection.ending && is_after s.reported s.connection.timers.heard_at
    then Some ending.Unreachable else s.connection.ending
