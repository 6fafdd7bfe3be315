-- Where the runs of a network begin.
use Rattle.std.specs.Prelude.{◌≡◌, ℕ, true, [], Some}
use Rattle.std.specs.List.{AllByRecursion}
use Rattle.net_base.specs.Checksum.{is_tx}
use Rattle.ip_address.specs.Protocol.{number_of}
use Rattle.ip_wire.specs.IpPacket.{next_header}
use Rattle.sockets.specs.Raw.{RawSocket, Sent as Packet, packet_in}
use Rattle.host_machine.specs.Context.Host.{SocketSet}
use Rattle.host_laws.specs.RawArrivals.{raw_at}
use Rattle.tcp_host_laws.specs.Lives.{Tells}
use Rattle.tcp_host_laws.specs.TcpNetworks.Stations.{Station}

-- no packet of TCP waits to be received at a raw socket
abbrev pub HasNoTcp : RawSocket → Type 0
HasNoTcp r = AllByRecursion (λ p. (q : Packet) → packet_in r.version p.1 ≡ Some q →
    number_of (next_header q.header) ≡ 6 → ⊥) r.rx.packets

-- where a run begins: no connection, no life, and no packet of TCP at the raw sockets, one way or the other; and the
-- device leaves no checksum out
pub record IsNew (s : Station) (sockets : SocketSet) : Type 0 where
  pub tells : Tells s.lives s.connections
  pub lives : s.lives ≡ []
  pub received : (i : ℕ) (r : RawSocket) → raw_at sockets i ≡ Some r → HasNoTcp r
  pub to_send : (i : ℕ) (r : RawSocket) → raw_at sockets i ≡ Some r → number_of r.protocol ≡ 6 → r.tx.packets ≡ []
  pub summed : is_tx s.carrier.checksum ≡ true
