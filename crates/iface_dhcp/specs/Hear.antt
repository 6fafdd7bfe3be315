-- What the client makes of what came to its sockets.
use Rattle.std.specs.Prelude.{ℕ, zero, suc, ◌≡◌, ◌≢◌, Bool, List, take, Option, Some, None, if◌then◌else◌}
use Rattle.sockets.specs.declared.endpoint.IpEndpoint.{IpEndpoint}
use Rattle.dhcp_client.specs.declared.client.DhcpClient.{DhcpClient}
use Rattle.dhcp_client.specs.Details.Datagrams.{IsToClient, ReceivesDatagram, datagram_in}
use Rattle.iface_host.specs.Queues.{fills_at}
use Rattle.iface_host.specs.Refusals.{raw_unreceived, udp_unreceived}
use Rattle.iface_host.specs.Sockets.{ReceivesRaw, ReceivesUdp}
use Rattle.iface_host.specs.declared.host.IfaceHost.{IfaceHost}
use Rattle.iface_host.specs.declared.queues.Fill.{Fill}
use Rattle.iface_dhcp.specs.declared.dhcp.Dhcp.{Dhcp}

-- the client receives a datagram; where that gives a lease, its octets are kept in place of those before
pub record ReceivesAt (port : ℕ) (payload : List ℕ) (d d' : Dhcp) : Type 0 where
  pub client : DhcpClient
  pub gave : Bool
  pub received : ReceivesDatagram port payload gave d.client client
  pub after : d' ≡ record d { client = client; ack = if gave then payload else d.ack }

-- the first datagram of its UDP socket is taken, and received
pub record HearsFirst (d d' : Dhcp) (old new : IfaceHost) : Type 0 where
  pub from : IpEndpoint
  pub len : ℕ
  pub out : List ℕ
  pub taken : ReceivesUdp d.socket from len out old new
  pub received : ReceivesAt from.port (take len out) d d'

-- unless there is none, or one that is longer than the socket has room for
pub data Hears (d d' : Dhcp) (old new : IfaceHost) : Type 0 where
  Heard : HearsFirst d d' old new → Hears d d' old new
  NotHeard : udp_unreceived old d.socket 2944 ≢ None → d' ≡ d → new ≡ old → Hears d d' old new

-- the datagram of a packet is received, if it goes to port 68
pub record ReceivesPacket (packet : List ℕ) (d d' : Dhcp) : Type 0 where
  pub received : IsToClient packet → ReceivesAt (datagram_in packet).0 (datagram_in packet).1 d d'
  pub ignored : (IsToClient packet → ⊥) → d' ≡ d

-- the first packet of a raw socket is taken, and received
pub record HearsPacket (n : ℕ) (d d' : Dhcp) (old new : IfaceHost) : Type 0 where
  pub len : ℕ
  pub out : List ℕ
  pub taken : ReceivesRaw n len out old new
  pub received : ReceivesPacket (take len out) d d'

pub data HearsRaw (n : ℕ) (d d' : Dhcp) (old new : IfaceHost) : Type 0 where
  HeardRaw : HearsPacket n d d' old new → HearsRaw n d d' old new
  NotHeardRaw : raw_unreceived old n 1500 ≢ None → d' ≡ d → new ≡ old → HearsRaw n d d' old new

-- so many, one after another
pub data HearsAll (One : Dhcp → Dhcp → IfaceHost → IfaceHost → Type 0) : ℕ → Dhcp → Dhcp → IfaceHost → IfaceHost → Type 0 where
  NoMore : {d : Dhcp} {host : IfaceHost} → HearsAll One zero d d host host
  OneMore : {k : ℕ} {d between d' : Dhcp} {old mid new : IfaceHost} →
      One d between old mid → HearsAll One k between d' mid new → HearsAll One (suc k) d d' old new

-- how many packets wait at a socket to be taken
abbrev pub packets_of : Option (Fill × Fill) → ℕ
packets_of None = 0
packets_of (Some fills) = fills.0.packets

abbrev pub packets_at : IfaceHost → ℕ → ℕ
packets_at host n = packets_of (fills_at host n)

-- all packets of the raw socket are taken, if it is open
abbrev pub Overhears : Option ℕ → Dhcp → Dhcp → IfaceHost → IfaceHost → Type 0
Overhears None d d' old new = (d' ≡ d) × (new ≡ old)
Overhears (Some n) d d' old new = HearsAll (HearsRaw n) (packets_at old n) d d' old new
