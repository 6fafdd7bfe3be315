-- Sockets by their numbers: how they are opened and closed, and what they send and receive.
use Rattle.std.specs.Prelude.{ℕ, ◌+◌, nat_lt, ◌≡◌, ◌≤◌, true, List, [], length, take}
use Rattle.std.specs.Prelude.{slice_set, Option, Some, None, IsSome, if◌then◌else◌}
use Rattle.egress_schedule.specs.Plan.{idle, with_watch}
use Rattle.std.specs.Borrow.{Bor}
use Rattle.ip_address.specs.declared.ip.IpAddress.{IpAddress}
use Rattle.ip_address.specs.declared.protocol.IpProtocol.{IpProtocol}
use Rattle.ip_address.specs.declared.protocol.IpVersion.{IpVersion}
use Rattle.sockets.specs.declared.endpoint.IpEndpoint.{IpEndpoint}
use Rattle.sockets.specs.declared.endpoint.IpListenEndpoint.{IpListenEndpoint}
use Rattle.sockets.specs.Queue.{Queued, first_of, is_room}
use Rattle.sockets.specs.declared.icmp.Endpoint.{Endpoint}
use Rattle.sockets.specs.Icmp as icmps
use Rattle.sockets.specs.Raw as raws
use Rattle.sockets.specs.Udp as udps
use Rattle.sockets.specs.Kinds.{up_icmp, up_raw, up_udp}
use Rattle.sockets.specs.declared.socket.SocketOf.{SocketOf}
use Rattle.sockets.specs.declared.socket.SocketOf.TheVariants.{Raw, Icmp, Udp}
use Rattle.socket_set.specs.SocketSet.{set_after_add, first_free, socket_at, with_place}
use Rattle.iface_host.specs.Names.{first_unused, handle_named}
use Rattle.iface_host.specs.declared.host.IfaceHost.{IfaceHost}
use Rattle.iface_host.specs.declared.opening.Room.{Room}
use Rattle.iface_host.specs.declared.opening.Rooms.{Rooms}

-- a socket of a host
abbrev pub Socket : Type 0
Socket = SocketOf (Bor (Unit {0}))

-- an empty queue that holds so much
abbrev pub queue_of : {M : Type 0} → Room → Queued M
queue_of room = record { packets = []; most = room.packets; limit = room.octets }

-- sockets that were just made
abbrev pub udp : IpListenEndpoint → Rooms → Socket
udp local rooms = Udp (record {
  endpoint = local;
  hop_limit = 64;
  rx = queue_of rooms.received;
  tx = queue_of rooms.to_send;
})

abbrev pub raw : IpVersion → IpProtocol → Rooms → Socket
raw version protocol rooms = Raw (record {
  version = version;
  protocol = protocol;
  rx = queue_of rooms.received;
  tx = queue_of rooms.to_send;
})

abbrev pub icmp : Endpoint → Rooms → Socket
icmp endpoint rooms = Icmp (record {
  endpoint = endpoint;
  hop_limit = 64;
  rx = queue_of rooms.received;
  tx = queue_of rooms.to_send;
})

-- a socket is added, the least number that named none names it, and what was kept of its place is forgotten
pub record Opens (socket : Socket) (n : ℕ) (old new : IfaceHost) : Type 0 where
  pub unused : first_unused old.names ≡ Some n
  pub after : new ≡ record old {
    sockets = set_after_add old.sockets socket new.sockets.room;
    names = slice_set old.names n (Some (first_free old.sockets.places));
    schedule = with_watch (first_free old.sockets.places) idle old.schedule;
  }

-- the host with this at a place of its sockets
abbrev pub with_socket : IfaceHost → ℕ → Option Socket → IfaceHost
with_socket host handle socket = record host { sockets = with_place host.sockets handle socket }

-- a number names this socket
pub record Names (n : ℕ) (host : IfaceHost) (handle : ℕ) (socket : Socket) : Type 0 where
  pub is_named : handle_named host.names n ≡ Some handle
  pub is_there : socket_at host.sockets handle ≡ Some socket

-- the socket of a number is dropped, and the number names none
pub record Closes (n : ℕ) (old new : IfaceHost) : Type 0 where
  pub handle : ℕ
  pub is_named : handle_named old.names n ≡ Some handle
  pub is_there : IsSome (socket_at old.sockets handle)
  pub after : new ≡ record (with_socket old handle None) { names = slice_set old.names n None }

-- a packet of so many octets may have to be cut, if it is longer than the link's packets
abbrev pub with_packet : ℕ → IfaceHost → IfaceHost
with_packet len host =
    if nat_lt host.ip_mtu len then record host { schedule = record host.schedule { may_have_long = true } } else host

-- a packet is queued, for which there is room
pub record SendsUdp (n : ℕ) (remote : IpEndpoint) (payload : List ℕ) (old new : IfaceHost) : Type 0 where
  pub handle : ℕ
  pub socket : udps.UdpSocket
  pub names : Names n old handle (Udp socket)
  pub room : is_room socket.tx (length payload) ≡ true
  pub after : new ≡ with_packet (28 + length payload)
      (with_socket old handle (Some (Udp (udps.socket_after_send remote payload socket))))

pub record SendsIcmp (n : ℕ) (remote : IpAddress) (message : List ℕ) (old new : IfaceHost) : Type 0 where
  pub handle : ℕ
  pub socket : icmps.IcmpSocket
  pub names : Names n old handle (Icmp socket)
  pub room : is_room socket.tx (length message) ≡ true
  pub after : new ≡ with_packet (20 + length message)
      (with_socket old handle (Some (Icmp (icmps.socket_after_send remote message socket))))

pub record SendsRaw (n : ℕ) (packet : List ℕ) (old new : IfaceHost) : Type 0 where
  pub handle : ℕ
  pub socket : raws.RawSocket
  pub names : Names n old handle (Raw socket)
  pub room : is_room socket.tx (length packet) ≡ true
  pub after : new
      ≡ with_packet (length packet) (with_socket old handle (Some (Raw (raws.socket_after_send packet socket))))

-- a packet that is lent, with what is kept of it
abbrev pub lent_packet : {M : Type 0} → Bor M × Bor (List ℕ) → M × List ℕ
lent_packet p = (p.0.now, p.1.now)

-- the first packet that came to a socket of a kind stands in the front of a buffer, which it fits, and where it came
-- from is told
pub record Peeks {M S : Type 0} (up : S → Socket) (received : S → Queued M) (n : ℕ) (from : M) (len : ℕ) (out : List ℕ)
    (host : IfaceHost) : Type 0 where
  pub handle : ℕ
  pub socket : S
  pub names : Names n host handle (up socket)
  pub first : first_of (received socket).packets ≡ Some (from, take len out)
  pub within : len ≤ length out

-- besides, it is taken
pub record Receives {M S : Type 0} (up : S → Socket) (received : S → Queued M) (after_done : S → S) (n : ℕ) (from : M)
    (len : ℕ) (out : List ℕ) (old new : IfaceHost) : Type 0 where
  pub peeked : Peeks up received n from len out old
  pub after : new ≡ with_socket old peeked.handle (Some (up (after_done peeked.socket)))

abbrev pub PeeksUdp : ℕ → IpEndpoint → ℕ → List ℕ → IfaceHost → Type 0
PeeksUdp = Peeks up_udp (λ (s : udps.UdpSocket). s.rx)

abbrev pub ReceivesUdp : ℕ → IpEndpoint → ℕ → List ℕ → IfaceHost → IfaceHost → Type 0
ReceivesUdp = Receives up_udp (λ (s : udps.UdpSocket). s.rx) udps.socket_after_done

abbrev pub PeeksIcmp : ℕ → IpAddress → ℕ → List ℕ → IfaceHost → Type 0
PeeksIcmp = Peeks up_icmp (λ (s : icmps.IcmpSocket). s.rx)

abbrev pub ReceivesIcmp : ℕ → IpAddress → ℕ → List ℕ → IfaceHost → IfaceHost → Type 0
ReceivesIcmp = Receives up_icmp (λ (s : icmps.IcmpSocket). s.rx) icmps.socket_after_done

abbrev pub PeeksRaw : ℕ → ℕ → List ℕ → IfaceHost → Type 0
PeeksRaw n = Peeks up_raw (λ (s : raws.RawSocket). s.rx) n tt

abbrev pub ReceivesRaw : ℕ → ℕ → List ℕ → IfaceHost → IfaceHost → Type 0
ReceivesRaw n = Receives up_raw (λ (s : raws.RawSocket). s.rx) raws.socket_after_done n tt
