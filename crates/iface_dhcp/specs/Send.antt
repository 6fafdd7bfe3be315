-- How the client's messages are queued.
use Rattle.std.specs.Prelude.{ℕ, ◌≡◌, ◌⊎◌, ◌||◌, ◌&&◌, nat_lt, not, is_some, Bool, true, false, length, Option, Some, None, if◌then◌else◌}
use Rattle.ip_address.specs.Ipv4.{is_broadcast}
use Rattle.ip_address.specs.declared.protocol.IpProtocol.TheVariants as protocol
use Rattle.ip_address.specs.declared.protocol.IpVersion.TheVariants as version
use Rattle.dhcp_client.specs.declared.messages.DhcpMessage.{DhcpMessage}
use Rattle.dhcp_client.specs.declared.wishes.DhcpWishes.{DhcpWishes}
use Rattle.ip_address.specs.declared.ip.IpAddress.TheVariants.{Ipv4}
use Rattle.dhcp_client.specs.Client.{lease}
use Rattle.dhcp_client.specs.Messages.{everybody}
use Rattle.dhcp_client.specs.Details.Datagrams.{server_of}
use Rattle.dhcp_client.specs.Details.Packets.{message_text, packet_of}
use Rattle.iface_host.specs.Calls.{source_for}
use Rattle.iface_host.specs.Queues.{fills_at}
use Rattle.iface_host.specs.Refusals.{raw_unsent, udp_unsent}
use Rattle.iface_host.specs.TableRefusals.{opening_refusal}
use Rattle.iface_host.specs.Sockets.{Opens, SendsRaw, SendsUdp, raw}
use Rattle.iface_host.specs.declared.host.IfaceHost.{IfaceHost}
use Rattle.iface_host.specs.declared.opening.Rooms.{Rooms}
use Rattle.iface_host.specs.declared.queues.Fill.{Fill}
use Rattle.iface_host.specs.declared.refusal.Refusal.{Refusal}
use Rattle.iface_host.specs.declared.refusal.Refusal.TheVariants.{NoMemory}
use Rattle.iface_dhcp.specs.declared.dhcp.Dhcp.{Dhcp}
use Rattle.iface_dhcp.specs.Dhcp.{ClosesOne, Unless}
use Rattle.iface_dhcp.specs.Place.{KeepsPlace, LeavesPlace}

-- what a call of the host does, unless it is refused
abbrev pub Tries : (refusal why : Option Refusal) → (IfaceHost → IfaceHost → Type 0) → IfaceHost → IfaceHost → Type 0
Tries refusal why Step old new = (why ≡ refusal) × Unless refusal Step old new

-- to one server, at the UDP socket, if there is room; or why not
abbrev pub SendsToServer : ℕ → DhcpWishes → DhcpMessage → Option Refusal → IfaceHost → IfaceHost → Type 0
SendsToServer n w m why old new =
    Tries (udp_unsent old n (server_of m) (length (message_text w m))) why (SendsUdp n (server_of m) (message_text w m)) old new

-- as a packet, at a raw socket, if there is room; or why not
abbrev pub SendsPacket : ℕ → DhcpWishes → DhcpMessage → Option Refusal → IfaceHost → IfaceHost → Type 0
SendsPacket n w m why old new = Tries (raw_unsent old n (length (packet_of w m))) why (SendsRaw n (packet_of w m)) old new

-- room for one message with the headers of IPv4 and UDP, and for some packets that come
abbrev pub rooms : Rooms
rooms = record { received = record { packets = 8; octets = 1500 }; to_send = record { packets = 1; octets = 433 } }

abbrev pub with_broadcast : Option ℕ → Dhcp → Dhcp
with_broadcast n d = record d { broadcast = n }

-- why a socket isn't opened: there is no number or no place for it, or no memory
abbrev pub IsUnopened : Refusal → IfaceHost → Type 0
IsUnopened why host = (opening_refusal host ≡ Some why) ⊎ (why ≡ NoMemory)

-- to all servers, at the raw socket; if that isn't open it is opened in the client's second place, or else, without memory for it,
-- the message is lost
pub data SendsToAll (m : DhcpMessage) (why : Option Refusal) (d d' : Dhcp) (old new : IfaceHost) : Type 0 where
  IsOpen : (n : ℕ) → d.broadcast ≡ Some n → d' ≡ d → SendsPacket n d.wishes m why old new → SendsToAll m why d d' old new
  IsOpened : (n : ℕ) (left : Dhcp) (free between : IfaceHost) → d.broadcast ≡ None → LeavesPlace d left old free →
      Opens (raw version.Ipv4 protocol.Udp rooms) n free between → d' ≡ with_broadcast (Some n) left → SendsPacket n left.wishes m why between new →
      SendsToAll m why d d' old new
  NotOpened : (refusal : Refusal) (left : Dhcp) (free : IfaceHost) → d.broadcast ≡ None → LeavesPlace d left old free →
      IsUnopened refusal free → why ≡ Some refusal → KeepsPlace left d' free new → SendsToAll m why d d' old new

-- a message goes to all servers, or to one
abbrev pub SendsBy : Bool → DhcpMessage → Option Refusal → Dhcp → Dhcp → IfaceHost → IfaceHost → Type 0
SendsBy true m why d d' old new = SendsToAll m why d d' old new
SendsBy false m why d d' old new = (d' ≡ d) × SendsToServer d.socket d.wishes m why old new

-- and why it is lost is kept, if it is
pub record Sends (m : DhcpMessage) (d d' : Dhcp) (old new : IfaceHost) : Type 0 where
  pub why : Option Refusal
  pub sent : Dhcp
  pub sends : SendsBy (is_broadcast m.dst) m why d sent old new
  pub told : d' ≡ record sent { lost = why }

-- whether a packet waits to be sent at a socket
abbrev pub are_waiting : Option (Fill × Fill) → Bool
are_waiting None = false
are_waiting (Some fills) = nat_lt 0 fills.1.packets

abbrev pub is_waiting : IfaceHost → ℕ → Bool
is_waiting host n = are_waiting (fills_at host n)

-- the raw socket is of use while a packet waits, and as long as there is no lease and the host has no address of IPv4, for answers to
-- an address that it hasn't
abbrev pub is_nowhere : Dhcp → IfaceHost → Bool
is_nowhere d host = not (is_some (lease d.client)) && not (is_some (source_for host (Ipv4 everybody)))

abbrev pub needs_raw : ℕ → Dhcp → IfaceHost → Bool
needs_raw n d host = is_nowhere d host || is_waiting host n

-- else it is closed, and its place is kept
pub record ClosesRaw (n : ℕ) (d d' : Dhcp) (old new : IfaceHost) : Type 0 where
  pub between : IfaceHost
  pub closed : ClosesOne n old between
  pub kept : KeepsPlace (with_broadcast None d) d' between new

abbrev pub ClosesIdle : Bool → ℕ → Dhcp → Dhcp → IfaceHost → IfaceHost → Type 0
ClosesIdle true n d d' old new = (d' ≡ d) × (new ≡ old)
ClosesIdle false n d d' old new = ClosesRaw n d d' old new

abbrev pub ClosesOf : Option ℕ → Dhcp → Dhcp → IfaceHost → IfaceHost → Type 0
ClosesOf None d d' old new = KeepsPlace d d' old new
ClosesOf (Some n) d d' old new = ClosesIdle (needs_raw n d old) n d d' old new

abbrev pub ClosesSent : Dhcp → Dhcp → IfaceHost → IfaceHost → Type 0
ClosesSent d d' old new = ClosesOf d.broadcast d d' old new
