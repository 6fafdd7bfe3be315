-- What a turn of a host does with its connections, and with its raw sockets.
use Rattle.std.specs.Prelude.{◌≡◌, ℕ, Bool, true, false, List, [], ◌∷◌, ◌++◌, Option, Some, None, is_some}
use Rattle.std.specs.List.{AllByRecursion, Contains}
use Rattle.net_base.specs.Checksum.{is_rx, is_tx}
use Rattle.ip_address.specs.declared.cidr.IpCidr.{IpCidr}
use Rattle.sockets.specs.Raw.{RawSocket, Sent as Packet, packet_in}
use Rattle.socket_set.specs.SocketSet.{Sockets}
use Rattle.tcp_machine.specs.Segments as machine
use Rattle.tcp_connection.specs.Actions.{header_of}
use Rattle.tcp_connection.specs.Segments.{segment_of}
use Rattle.tcp_host.specs.Arrivals.{before}
use Rattle.tcp_host.specs.declared.iss.Endpoints.{Endpoints}
use Rattle.tcp_host.specs.declared.resets.Reset.{Reset}
use Rattle.tcp_sockets.specs.Arrivals.{HasSegment, arrived_in}
use Rattle.tcp_sockets.specs.Packets.{Segment, reset_between, packet_text}
use Rattle.tcp_sockets.specs.Sending.{is_packet}
use Rattle.tcp_sockets.specs.Polls.{State, raw_at}
use Rattle.tcp_laws.specs.Machines.{Sent, arrived, Act, Opens, Accepts, Writes, Reads, Closes, Aborts, Chooses, Fits, Fails, Gets, Expires, Sends}
use Rattle.tcp_host_laws.specs.Lives.{Life, side_of, Event, Does, Begins, newest, after_event, after_events, Tells}

-- A segment between these ends, the remote one being where it came from, stands in a packet for the host that waits at
-- a raw socket.
pub record Came {L : Type 0} (checked : Bool) (own : List IpCidr) (sockets : Sockets L) (e : Endpoints)
    (s : machine.Segment) : Type 0 where
  pub index : ℕ
  pub socket : RawSocket
  pub there : raw_at index sockets ≡ Some socket
  pub octets : List ℕ
  pub waits : Contains socket.rx.packets (tt, octets)
  pub packet : Packet
  pub is_read : packet_in socket.version octets ≡ Some packet
  pub has_segment : HasSegment checked own packet
  pub ends : (arrived_in packet).endpoints ≡ e
  pub is : segment_of (arrived_in packet).segment (arrived_in packet).octets ≡ s

-- what a connection between these ends may do without its program: a segment that it gets has come
abbrev pub MayDo : {L : Type 0} → Bool → List IpCidr → Sockets L → Endpoints → Act → Type 0
MayDo checked own sockets e (Opens now mss settings) = ⊥
MayDo checked own sockets e (Accepts now default link settings k options) = ⊥
MayDo checked own sockets e (Writes octets) = ⊥
MayDo checked own sockets e (Reads count) = ⊥
MayDo checked own sockets e Closes = ⊥
MayDo checked own sockets e Aborts = Unit {0}
MayDo checked own sockets e (Chooses settings) = ⊥
MayDo checked own sockets e (Fits size) = ⊥
MayDo checked own sockets e Fails = ⊥
MayDo checked own sockets e (Gets default link now keeps k options) =
    Came checked own sockets e (arrived k.segment options)
MayDo checked own sockets e (Expires now) = Unit {0}
MayDo checked own sockets e (Sends now) = Unit {0}

-- a connection begins without its program by a SYN that has come, neither a reset nor an acknowledgement (RFC 9293 3.10.7.2)
pub record IsBeginning (s : machine.Segment) : Type 0 where
  pub syn : s.syn ≡ true
  pub no_reset : s.rst ≡ false
  pub no_ack : s.ack ≡ None

-- or by a segment that has come and acknowledges a cookie (RFC 4987 3.6): it tells the number of the SYN
pub record IsTold {L : Type 0} (checked : Bool) (own : List IpCidr) (sockets : Sockets L) (e : Endpoints)
    (s : machine.Segment) : Type 0 where
  pub answer : machine.Segment
  pub came : Came checked own sockets e answer
  pub number : s.number ≡ before answer.number
  pub ack : s.ack ≡ answer.ack
  pub acknowledges : is_some s.ack ≡ true

pub data MayAccept {L : Type 0} (checked : Bool) (own : List IpCidr) (sockets : Sockets L) (e : Endpoints)
    (s : machine.Segment) : Type 0 where
  BySyn : Came checked own sockets e s → IsBeginning s → MayAccept checked own sockets e s
  ByCookie : IsTold checked own sockets e s → MayAccept checked own sockets e s

abbrev pub MayBegin : {L : Type 0} → Bool → List IpCidr → Sockets L → Endpoints → Act → Type 0
MayBegin checked own sockets e (Accepts now default link settings k options) =
    MayAccept checked own sockets e (arrived k.segment options)
MayBegin checked own sockets e other = ⊥

abbrev pub MayHappen : {L : Type 0} → Bool → List IpCidr → Sockets L → List Life → Event → Type 0
MayHappen checked own sockets ls (Does place act) =
    (l : Life) → newest place ls ≡ Some l → MayDo checked own sockets l.ends act
MayHappen checked own sockets ls (Begins place e number room size act) = MayBegin checked own sockets e act

-- one after another
abbrev pub MayFollow : {L : Type 0} → Bool → List IpCidr → Sockets L → List Life → List Event → Type 0
MayFollow checked own sockets ls [] = Unit {0}
MayFollow checked own sockets ls (e ∷ es) =
    MayHappen checked own sockets ls e × MayFollow checked own sockets (after_event e ls) es

-- a segment that a connection between these ends sent, as its packet has it; its options may be any
pub record IsSegmentOf (e : Endpoints) (k : Sent) (s : Segment) : Type 0 where
  pub ends : s.endpoints ≡ e
  pub header : s.header ≡ header_of k.segment
  pub octets : s.octets ≡ k.segment.octets

-- octets are the packet of a segment that a connection sent in its life, or of a reset that belongs to none (RFC 9293
-- 3.10.7.1); a packet can carry it
pub data WasSent (summed : Bool) (ls : List Life) (octets : List ℕ) : Type 0 where
  InLife : (l : Life) (k : Sent) (s : Segment) → Contains ls l → Contains (side_of l).sent k → IsSegmentOf l.ends k s →
      is_packet s ≡ true → octets ≡ packet_text summed s → WasSent summed ls octets
  InNone : (e : Endpoints) (r : Reset) → is_packet (reset_between e r) ≡ true →
      octets ≡ packet_text summed (reset_between e r) → WasSent summed ls octets

-- what becomes of a raw socket: packets leave the front of its receive queue, and such packets are appended to what it
-- sends
pub record Moves (summed : Bool) (ls : List Life) (old new : RawSocket) : Type 0 where
  pub version : new.version ≡ old.version
  pub protocol : new.protocol ≡ old.protocol
  pub taken : List (Unit {0} × List ℕ)
  pub front : taken ++ new.rx.packets ≡ old.rx.packets
  pub queued : List (Unit {0} × List ℕ)
  pub back : old.tx.packets ++ queued ≡ new.tx.packets
  pub sent : AllByRecursion (λ p. WasSent summed ls p.1) queued

abbrev pub MovesIf : Bool → List Life → (old new : Option RawSocket) → Type 0
MovesIf summed ls None new = new ≡ None
MovesIf summed ls (Some s) new = (t : RawSocket) × (new ≡ Some t) × Moves summed ls s t

-- A turn of a host of which these lives told: what happened, by what had come; the lives tell of the host then; and
-- what was sent was queued, or lost.
pub record LivesOn {L : Type 0} (own : List IpCidr) (ls : List Life) (old new : State L) : Type 0 where
  pub events : List Event
  pub follow : MayFollow (is_rx old.carrier.checksum) own old.sockets ls events
  pub tells : Tells (after_events events ls) new.host
  pub checksum : new.carrier.checksum ≡ old.carrier.checksum
  pub sockets : (i : ℕ) →
      MovesIf (is_tx old.carrier.checksum) (after_events events ls) (raw_at i old.sockets) (raw_at i new.sockets)
