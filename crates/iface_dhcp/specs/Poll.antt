-- What the client does whenever its owner calls it.
use Rattle.std.specs.Prelude.{ℕ, ℤ, ◌≡◌, ◌/◌, ◌^◌, pos, length, Bool, true, false, Option, Some, None}
use Rattle.net_base.specs.Rand.{next}
use Rattle.sockets.specs.Kinds.{down_udp}
use Rattle.sockets.specs.Udp.{UdpSocket}
use Rattle.dhcp_client.specs.Client.{after_telling, event}
use Rattle.dhcp_client.specs.Messages as messages
use Rattle.dhcp_client.specs.declared.client.DhcpClient.{DhcpClient}
use Rattle.dhcp_client.specs.declared.lease.DhcpEvent.{DhcpEvent}
use Rattle.dhcp_client.specs.declared.messages.DhcpMessage.{DhcpMessage}
use Rattle.iface_host.specs.Refusals.{kind_at, moment_refusal, of_socket}
use Rattle.iface_host.specs.TableRefusals.{first_reason}
use Rattle.iface_host.specs.declared.host.IfaceHost.{IfaceHost}
use Rattle.iface_host.specs.declared.refusal.Refusal.{Refusal}
use Rattle.iface_host.specs.declared.refusal.Refusal.TheVariants.{NoSocket}
use Rattle.iface_dhcp.specs.declared.dhcp.Dhcp.{Dhcp}
use Rattle.iface_dhcp.specs.Hear.{Hears, HearsAll, Overhears}
use Rattle.iface_dhcp.specs.Dhcp.{is_in_test, word}
use Rattle.iface_dhcp.specs.Probe.{SendsIf, Tests}
use Rattle.iface_dhcp.specs.Send.{ClosesSent}

-- the host has no UDP socket of this number
abbrev pub socket_refusal : IfaceHost → ℕ → Option Refusal
socket_refusal host n = of_socket (λ (s : UdpSocket). None) (kind_at down_udp host n)

abbrev pub is_no_socket : Refusal → Bool
is_no_socket NoSocket = true
is_no_socket other = false

-- the moment is out of range, or the client's socket isn't there
abbrev pub poll_refusal : ℤ → ℕ → IfaceHost → Option Refusal
poll_refusal now n host = first_reason (moment_refusal now) (socket_refusal host n)

-- so many datagrams wait at a UDP socket
pub record IsWaiting (n count : ℕ) (host : IfaceHost) : Type 0 where
  pub socket : UdpSocket
  pub is_there : kind_at down_udp host n ≡ Some socket
  pub packets : count ≡ length socket.rx.packets

-- the client without, and with another
abbrev pub with_client : Dhcp → DhcpClient → Dhcp
with_client d c = record d { client = c }

-- a random number is drawn for a message; where there is none, none is drawn
abbrev pub drawn : Option DhcpMessage → Dhcp → Dhcp
drawn None d = d
drawn (Some m) d = record d { random = next d.random }

abbrev pub after_asking : ℕ → Dhcp → Dhcp
after_asking now d =
    drawn (messages.message_at now (word d) d.client) (with_client d (messages.after_asking now (word d) d.client))

abbrev pub SendsNext : ℕ → Dhcp → Dhcp → IfaceHost → IfaceHost → Type 0
SendsNext now d = SendsIf (messages.message_at now (word d) d.client) (after_asking now d)

-- what its owner is told of the lease, once the address was tested
abbrev pub told_if : (in_test : Bool) → DhcpClient → Option DhcpEvent
told_if true c = None
told_if false c = event c

abbrev pub told : Dhcp → Option DhcpEvent
told d = told_if (is_in_test d.probing) d.client

abbrev pub after_telling_if : (in_test : Bool) → Dhcp → Dhcp
after_telling_if true d = d
after_telling_if false d = with_client d (after_telling d.client)

abbrev pub after_telling_of : Dhcp → Dhcp
after_telling_of d = after_telling_if (is_in_test d.probing) d

-- first it hears the datagrams that wait, and the packets at the raw socket; then that is closed, if it is of no use any more; then
-- what is due is queued, and the address of the lease tested; and its owner is told of the lease
pub record Polls (now : ℤ) (event : Option DhcpEvent) (d d' : Dhcp) (old new : IfaceHost) : Type 0 where
  pub micros : ℕ
  pub is_now : pos micros ≡ now
  pub count : ℕ
  pub heard : Dhcp
  pub overheard : Dhcp
  pub closed : Dhcp
  pub sent : Dhcp
  pub after_hearing : IfaceHost
  pub after_overhearing : IfaceHost
  pub tested : Dhcp
  pub after_closing : IfaceHost
  pub after_sending : IfaceHost
  pub waiting : IsWaiting d.socket count old
  pub hears : HearsAll Hears count d heard old after_hearing
  pub overhears : Overhears heard.broadcast heard overheard after_hearing after_overhearing
  pub closes : ClosesSent overheard closed after_overhearing after_closing
  pub sends : SendsNext micros closed sent after_closing after_sending
  pub tests : Tests micros sent tested after_sending new
  pub event_is : event ≡ told tested
  pub after : d' ≡ after_telling_of tested
