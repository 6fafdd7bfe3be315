-- What raw sockets of TCP get on a network of hosts was sent in lives.
use Rattle.std.specs.Prelude.{◌≡◌, ℕ, false, List, Some}
use Rattle.std.specs.List.{AllByRecursion, slice_get}
use Rattle.net_base.specs.Checksum.{is_tx}
use Rattle.ip_address.specs.Protocol.{number_of}
use Rattle.ip_address.specs.declared.protocol.IpVersion.{IpVersion}
use Rattle.ip_wire.specs.IpPacket.{next_header}
use Rattle.sockets.specs.Raw.{packet_in}
use Rattle.host_machine.specs.Context.Host.{Host}
use Rattle.host_machine.specs.Context.Real.{IsReal}
use Rattle.host_machine.specs.Interface.Run.{Transition, Run}
use Rattle.host_laws.specs.Network.{Runs, IsHost, WereSentBySome}
use Rattle.host_laws.specs.RawArrivals.{RawArrival}
use Rattle.host_laws.specs.RawPackets.{SendsByRaw, GetsRaw}
use Rattle.tcp_host_laws.specs.Turns.{WasSent}
use Rattle.tcp_host_laws.specs.TcpNetworks.Stations.{Station, Goes}
use Rattle.tcp_host_laws.specs.TcpNetworks.Queues.{WaitAsSent}

-- a packet was sent in a life at one of the hosts, or is a reset of none: octets that are read as it
pub record WasSentInLife (hosts : List Host) (first last : ℕ → Station) (a : RawArrival) : Type 0 where
  pub sender : ℕ
  pub is_host : IsHost hosts sender
  pub octets : List ℕ
  pub sent : WasSent (is_tx (first sender).carrier.checksum) (last sender).lives octets
  pub version : IpVersion
  pub is_read : packet_in version octets ≡ Some (record { header = a.header; payload = a.payload })

-- if it arrived in one packet, and is of TCP
abbrev pub WasSentWhole : List Host → (first last : ℕ → Station) → RawArrival → Type 0
WasSentWhole hosts first last a =
    a.is_reassembled ≡ false → number_of (next_header a.header) ≡ 6 → WasSentInLife hosts first last a

-- so is each packet that raw sockets get in a transition
pub record GetsFromLives (hosts : List Host) (runs : Runs) (first last : ℕ → Station) (q : Transition) : Type 0 where
  pub gets : GetsRaw 6 hosts runs q
  pub sent : AllByRecursion (WasSentWhole hosts first last) gets.arrivals

-- a host that gets frames of these hosts alone, whose owner does nothing but turns, and at whose raw sockets of TCP
-- waits at first only what its lives sent
pub record Drives (hosts : List Host) (runs : Runs) (a : Host) (ps : List Transition) (first last : Station)
    : Type 0 where
  pub goes : Goes first ps last
  pub received : WereSentBySome hosts runs ps
  pub waits : WaitAsSent (is_tx first.carrier.checksum) first.lives a.sockets

abbrev pub PacketsWereSentInLives : Type 0
PacketsWereSentInLives =
    (hosts : List Host) (runs : Runs) (first last : ℕ → Station) (b b' : Host) (qs : List Transition) →
    Run b qs b' → IsReal b →
    ((j : ℕ) (a : Host) → slice_get hosts j ≡ Some a → SendsByRaw 6 b.capabilities.medium a (runs j)) →
    ((j : ℕ) (a : Host) → slice_get hosts j ≡ Some a → Drives hosts runs a (runs j) (first j) (last j)) →
    WereSentBySome hosts runs qs → AllByRecursion (GetsFromLives hosts runs first last) qs
