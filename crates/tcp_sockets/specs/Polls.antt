-- The poll of a host of connections: what arrived is received, and what is due is sent.
use Rattle.std.specs.Prelude.{◌≡◌, ℕ, ◌+◌, ◌/◌, ◌&&◌, nat_lt, Bool, true, false, List, [], ◌∷◌, ◌++◌, length, Option, Some, None, if◌then◌else◌}
use Rattle.std.specs.Option.{option_and_then}
use Rattle.net_base.specs.declared.phy.Checksum.{Checksum}
use Rattle.net_base.specs.Checksum.{is_rx, is_tx}
use Rattle.ip_address.specs.declared.ip.IpAddress.{IpAddress}
use Rattle.ip_address.specs.declared.cidr.IpCidr.{IpCidr}
use Rattle.ip_address.specs.declared.protocol.IpVersion.{IpVersion}
use Rattle.ip_address.specs.declared.protocol.IpVersion.TheVariants.{Ipv4, Ipv6}
use Rattle.sockets.specs.Queue.{first_of}
use Rattle.sockets.specs.Raw.{RawSocket, socket_after_done}
use Rattle.sockets.specs.declared.socket.SocketOf.TheVariants.{Raw}
use Rattle.sockets.specs.Kinds.{down_raw}
use Rattle.socket_set.specs.SocketSet.{Sockets, socket_at, with_place}
use Rattle.tcp_machine.specs.Instants.{later}
use Rattle.tcp_machine.specs.Outgoing as machine
use Rattle.tcp_connection.specs.declared.outgoing.Action.{Action}
use Rattle.tcp_connection.specs.Actions.{action_of, header_of}
use Rattle.tcp_connection.specs.Blocks.{places_of}
use Rattle.tcp_host.specs.declared.iss.Endpoints.{Endpoints}
use Rattle.tcp_host.specs.Table.{ends_at}
use Rattle.tcp_host.specs.Host.{Host, connection_at, slot_at}
use Rattle.tcp_host.specs.declared.turns.Turn.{Turn}
use Rattle.tcp_host.specs.declared.turns.Turn.TheVariants.{Idle, Quiet, Sends}
use Rattle.tcp_host.specs.Turns.{TakesTurn, mss_of, scale_of, is_heard, sent_if, postponed, aborted_if}
use Rattle.tcp_sockets.specs.declared.tcp_sockets.SocketPair.{SocketPair}
use Rattle.tcp_sockets.specs.declared.tcp_sockets.Fate.{Fate}
use Rattle.tcp_sockets.specs.declared.tcp_sockets.Fate.TheVariants.{Queued, Waits, Stranded}
use Rattle.tcp_sockets.specs.declared.receiving.Answer.{Answer}
use Rattle.tcp_sockets.specs.Packets.{Segment, reply_between}
use Rattle.tcp_sockets.specs.Receiving.{ReceivesFirst}
use Rattle.tcp_sockets.specs.Sending.{version_between, fits, socket_after, fits_far, socket_after_far, waiting_after}

-- the sockets of each family, what the device leaves to the host, to whom packets wait at the sockets for peers that haven't
-- answered, and the places of connections that found no room
pub record Carrier : Type 0 where
  pub v4 : Option SocketPair
  pub v6 : Option SocketPair
  pub checksum : Checksum
  pub far_v4 : List IpAddress
  pub far_v6 : List IpAddress
  pub waiting : List ℕ

abbrev pub pair_of : IpVersion → Carrier → Option SocketPair
pair_of Ipv4 c = c.v4
pair_of Ipv6 c = c.v6

abbrev pub far_of : IpVersion → Carrier → List IpAddress
far_of Ipv4 c = c.far_v4
far_of Ipv6 c = c.far_v6

abbrev pub with_far : IpVersion → List IpAddress → Carrier → Carrier
with_far Ipv4 waiting c = record c { far_v4 = waiting }
with_far Ipv6 waiting c = record c { far_v6 = waiting }

-- a connection that found no room is asked again in the next poll, if fewer than 64 are, or after 50 ms
abbrev pub with_waiting : ℕ → Carrier → Carrier
with_waiting place c = if nat_lt (length c.waiting) 64 then record c { waiting = c.waiting ++ place ∷ [] } else c

abbrev pub later_by_pause : ℕ → ℕ
later_by_pause now = later now 50000

-- these are due again
abbrev pub resumed_in : ℕ → List ℕ → Host → Host
resumed_in now [] h = h
resumed_in now (place ∷ places) h = resumed_in now places (postponed place now h)

-- the segment that the connection at a place sends
abbrev pub segment_at : Endpoints → ℕ → machine.Action → Host → Segment
segment_at e place m h = record {
  endpoints = e;
  header = header_of (machine.segment_for m (connection_at place h));
  mss = mss_of e (header_of (machine.segment_for m (connection_at place h))) h;
  scale = scale_of (header_of (machine.segment_for m (connection_at place h))) (connection_at place h);
  blocks = places_of (machine.segment_for m (connection_at place h)).blocks;
  hop_limit = (slot_at place h).hop_limit;
  octets = (machine.segment_for m (connection_at place h)).octets;
}

-- A segment goes near if something came from its peer in the connection within the last minute, and otherwise if the next hop
-- to it is told to be known: a packet for it waits for nobody then. Without ends nothing is sent
abbrev pub IsNearBy : (told : IpAddress → Bool → Type 0) → IpAddress → (heard near : Bool) → Type 0
IsNearBy told a true near = near ≡ true
IsNearBy told a false near = told a near

abbrev pub IsNear : (told : IpAddress → Bool → Type 0) → Option Endpoints → (heard near : Bool) → Type 0
IsNear told None heard near = Unit {0}
IsNear told (Some e) heard near = IsNearBy told e.remote_addr heard near

-- no next hop is known
abbrev pub NoneIsKnown : IpAddress → Bool → Type 0
NoneIsKnown a known = known ≡ false

abbrev pub fate_if : Bool → Fate
fate_if true = Queued
fate_if false = Waits

-- whether there is room for a segment at a socket, if that is there: for peers that have answered, and for those that haven't
abbrev pub fits_at : Bool → Segment → Option RawSocket → Bool
fits_at summed s None = false
fits_at summed s (Some socket) = fits summed s socket

abbrev pub fits_far_at : Bool → Segment → List IpAddress → Option RawSocket → Bool
fits_far_at summed s waiting None = false
fits_far_at summed s waiting (Some socket) = fits_far summed s socket waiting

-- to whom packets wait then
abbrev pub waiting_with : Bool → Segment → List IpAddress → Option RawSocket → List IpAddress
waiting_with summed s waiting None = waiting
waiting_with summed s waiting (Some socket) = waiting_after summed s socket waiting

-- how many packets arrived at a socket, if that is there
abbrev pub arrived : Option RawSocket → ℕ
arrived None = 0
arrived (Some socket) = length socket.rx.packets

-- fewer packets are queued at the near socket than half of those for which there is room
abbrev pub is_half_free_at : Option RawSocket → Bool
is_half_free_at None = false
is_half_free_at (Some socket) = nat_lt (length socket.tx.packets) (socket.tx.most / 2)

-- whether the next hop to whom an answer goes is told to be known
abbrev pub IsKnown : (told : IpAddress → Bool → Type 0) → Option Answer → (known : Bool) → Type 0
IsKnown told None known = Unit {0}
IsKnown told (Some a) known = told a.endpoints.remote_addr known

module _ {L : Type 0} where
  -- the raw socket of a handle
  abbrev pub raw_at : ℕ → Sockets L → Option RawSocket
  raw_at handle set = option_and_then down_raw (socket_at set handle)

  abbrev pub with_raw : ℕ → RawSocket → Sockets L → Sockets L
  with_raw handle socket set = with_place set handle (Some (Raw socket))

  -- the sockets with it
  abbrev pub with_segment : Bool → Segment → ℕ → Option RawSocket → Sockets L → Sockets L
  with_segment summed s handle None set = set
  with_segment summed s handle (Some socket) set = with_raw handle (socket_after summed s socket) set

  abbrev pub is_half_free : Option SocketPair → Sockets L → Bool
  is_half_free None set = false
  is_half_free (Some pair) set = is_half_free_at (raw_at pair.near set)

  abbrev pub fits_near : Bool → Segment → Option SocketPair → Sockets L → Bool
  fits_near summed s None set = false
  fits_near summed s (Some pair) set = fits_at summed s (raw_at pair.near set)

  abbrev pub after_near : Bool → Segment → Option SocketPair → Sockets L → Sockets L
  after_near summed s None set = set
  after_near summed s (Some pair) set = with_segment summed s pair.near (raw_at pair.near set) set

  -- the same for a peer that hasn't answered
  abbrev pub with_far_segment : Bool → Segment → List IpAddress → ℕ → Option RawSocket → Sockets L → Sockets L
  with_far_segment summed s waiting handle None set = set
  with_far_segment summed s waiting handle (Some socket) set = with_raw handle (socket_after_far summed s waiting socket) set

  abbrev pub far_fits : Bool → Segment → List IpAddress → Option SocketPair → Sockets L → Bool
  far_fits summed s waiting None set = false
  far_fits summed s waiting (Some pair) set = fits_far_at summed s waiting (raw_at pair.far set)

  abbrev pub after_far : Bool → Segment → List IpAddress → Option SocketPair → Sockets L → Sockets L
  after_far summed s waiting None set = set
  after_far summed s waiting (Some pair) set = with_far_segment summed s waiting pair.far (raw_at pair.far set) set

  abbrev pub waiting_after_far : Bool → Segment → List IpAddress → Option SocketPair → Sockets L → List IpAddress
  waiting_after_far summed s waiting None set = waiting
  waiting_after_far summed s waiting (Some pair) set = waiting_with summed s waiting (raw_at pair.far set)

-- a host of connections with its sockets
pub record State (L : Type 0) : Type 0 where
  pub carrier : Carrier
  pub host : Host
  pub sockets : Sockets L

module _ {L : Type 0} where
  abbrev pub state : Carrier → Host → Sockets L → State L
  state c h set = record { carrier = c; host = h; sockets = set }

  -- a segment goes to a peer that has answered, or to one that hasn't
  abbrev pub is_near_queued : IpVersion → Segment → State L → Bool
  is_near_queued v s st = fits_near (is_tx st.carrier.checksum) s (pair_of v st.carrier) st.sockets

  abbrev pub near_queued : IpVersion → Segment → State L → State L
  near_queued v s st = record st { sockets = after_near (is_tx st.carrier.checksum) s (pair_of v st.carrier) st.sockets }

  abbrev pub is_far_queued : IpVersion → Segment → State L → Bool
  is_far_queued v s st = far_fits (is_tx st.carrier.checksum) s (far_of v st.carrier) (pair_of v st.carrier) st.sockets

  abbrev pub far_queued : IpVersion → Segment → State L → State L
  far_queued v s st = record {
    carrier = with_far v (waiting_after_far (is_tx st.carrier.checksum) s (far_of v st.carrier) (pair_of v st.carrier) st.sockets) st.carrier;
    host = st.host;
    sockets = after_far (is_tx st.carrier.checksum) s (far_of v st.carrier) (pair_of v st.carrier) st.sockets;
  }

  -- An answer goes near if the next hop is known and less than half of the packets there may be are queued: so it waits for nobody, and
  -- segments of connections find room. Else it goes to a peer that hasn't answered. It is lost, if there is no room
  abbrev pub replied_by : (by_near : Bool) → IpVersion → Segment → State L → State L
  replied_by true v s st = near_queued v s st
  replied_by false v s st = far_queued v s st

  abbrev pub answered : (known : Bool) → IpVersion → Option Answer → State L → State L
  answered known v None st = st
  answered known v (Some a) st =
      replied_by (known && is_half_free (pair_of v st.carrier) st.sockets) v (reply_between a.endpoints a.reply) st

  -- the answer that is owed, if one is, is queued
  pub record Answers (told : IpAddress → Bool → Type 0) (v : IpVersion) (answer : Option Answer) (c c' : Carrier) (set set' : Sockets L)
      : Type 0 where
    pub known : Bool
    pub is_known : IsKnown told answer known
    pub after : (h : Host) → state c' h set' ≡ answered known v answer (state c h set)

  -- the first packet of a socket is received
  pub record HearsFirst (told : IpAddress → Bool → Type 0) (v : IpVersion) (near now : ℕ) (own : List IpCidr) (socket : RawSocket)
      (old new : State L) : Type 0 where
    pub answer : Option Answer
    pub host : Host
    pub known : Bool
    pub received : ReceivesFirst now (is_rx old.carrier.checksum) own socket.version (first_of socket.rx.packets) old.host answer host
    pub is_known : IsKnown told answer known
    pub after : new
        ≡ answered known v answer (record { carrier = old.carrier; host = host; sockets = with_raw near (socket_after_done socket) old.sockets })

  abbrev pub HearsAt : (IpAddress → Bool → Type 0) → IpVersion → (near now : ℕ) → List IpCidr → Option RawSocket → (old new : State L) → Type 0
  HearsAt told v near now own None old new = new ≡ old
  HearsAt told v near now own (Some socket) old new = HearsFirst told v near now own socket old new

  abbrev pub Hears : (IpAddress → Bool → Type 0) → IpVersion → (near now : ℕ) → List IpCidr → (old new : State L) → Type 0
  Hears told v near now own old new = HearsAt told v near now own (raw_at near old.sockets) old new

  -- one after another, so many
  pub data HearsEach (told : IpAddress → Bool → Type 0) (v : IpVersion) (near now : ℕ) (own : List IpCidr) (old : State L)
      : ℕ → State L → Type 0 where
    Begins : HearsEach told v near now own old 0 old
    Goes : (n : ℕ) → (mid new : State L) → HearsEach told v near now own old n mid → Hears told v near now own mid new →
        HearsEach told v near now own old (n + 1) new

  -- all that arrived by a family
  abbrev pub HearsBy : (IpAddress → Bool → Type 0) → IpVersion → ℕ → List IpCidr → Option SocketPair → (old new : State L) → Type 0
  HearsBy told v now own None old new = new ≡ old
  HearsBy told v now own (Some pair) old new = HearsEach told v pair.near now own old (arrived (raw_at pair.near old.sockets)) new

  abbrev pub HearsAll : (IpAddress → Bool → Type 0) → IpVersion → ℕ → List IpCidr → (old new : State L) → Type 0
  HearsAll told v now own old new = HearsBy told v now own (pair_of v old.carrier) old new

  -- connections that found no room are due again
  abbrev pub resumed : ℕ → State L → State L
  resumed now st =
      record st { carrier = record st.carrier { waiting = [] }; host = resumed_in now st.carrier.waiting st.host }

  -- what becomes of a segment that is sent by a version of IP, if a host sends it at all. For a peer that hasn't answered it
  -- is lost where there is no room, and its timer sends it again (RFC 9293 3.8.1)
  abbrev pub fate_by : Bool → IpVersion → Segment → State L → Fate
  fate_by near v s st = if near then fate_if (is_near_queued v s st) else Queued

  abbrev pub after_by : Bool → IpVersion → Segment → State L → State L
  after_by near v s st = if near then near_queued v s st else far_queued v s st

  abbrev pub fate_in : Option IpVersion → Bool → Segment → State L → Fate
  fate_in None near s st = Stranded
  fate_in (Some v) near s st = fate_by near v s st

  abbrev pub after_in : Option IpVersion → Bool → Segment → State L → State L
  after_in None near s st = st
  after_in (Some v) near s st = after_by near v s st

  abbrev pub fate_of : Option Endpoints → (near : Bool) → (place : ℕ) → List IpCidr → machine.Action → State L → Fate
  fate_of None near place own m st = Stranded
  fate_of (Some e) near place own m st = fate_in (version_between e own) near (segment_at e place m st.host) st

  abbrev pub after_queueing : Option Endpoints → (near : Bool) → (place : ℕ) → List IpCidr → machine.Action → State L → State L
  after_queueing None near place own m st = st
  after_queueing (Some e) near place own m st = after_in (version_between e own) near (segment_at e place m st.host) st

  -- what follows for the connection: it was sent, it waits, or its connection is gone without a word
  abbrev pub after_fate : Fate → (place now : ℕ) → State L → State L
  after_fate Queued place now st = record st { host = sent_if place now st.host }
  after_fate Waits place now st =
      record st { carrier = with_waiting place st.carrier; host = postponed place (later_by_pause now) st.host }
  after_fate Stranded place now st = record st { host = sent_if place now (aborted_if place st.host) }

  abbrev pub after_sending : (near : Bool) → (place now : ℕ) → List IpCidr → machine.Action → State L → State L
  after_sending near place now own m st =
      after_fate (fate_of (ends_at st.host.ends place) near place own m st) place now
      (after_queueing (ends_at st.host.ends place) near place own m st)

  -- the segment of the connection at a place is queued, if there is room
  pub record QueuesAs (told : IpAddress → Bool → Type 0) (place now : ℕ) (own : List IpCidr) (m : machine.Action) (old : State L)
      (fate : Fate) (new : State L) : Type 0 where
    pub near : Bool
    pub is_near : IsNear told (ends_at old.host.ends place) (is_heard place now old.host) near
    pub is : fate ≡ fate_of (ends_at old.host.ends place) near place own m old
    pub after : new ≡ after_queueing (ends_at old.host.ends place) near place own m old

  -- by which socket the connection at a place sends is known, and then all that it changes
  pub record SendsAs (told : IpAddress → Bool → Type 0) (place now : ℕ) (own : List IpCidr) (m : machine.Action) (old new : State L)
      : Type 0 where
    pub near : Bool
    pub is_near : IsNear told (ends_at old.host.ends place) (is_heard place now old.host) near
    pub after : new ≡ after_sending near place now own m old

  -- the connection at a place sends what is due there
  pub record SendsFrom (told : IpAddress → Bool → Type 0) (place : ℕ) (a : Action) (now : ℕ) (own : List IpCidr) (old new : State L)
      : Type 0 where
    pub due : machine.Action
    pub is_due : machine.action now (connection_at place old.host) ≡ Some due
    pub is_asked : action_of due ≡ a
    pub sends : SendsAs told place now own due old new

  abbrev pub Follows : (IpAddress → Bool → Type 0) → Turn → (now : ℕ) → List IpCidr → (old : State L) → (goes_on : Bool) → (new : State L)
      → Type 0
  Follows told Idle now own old goes_on new = (goes_on ≡ false) × (new ≡ old)
  Follows told Quiet now own old goes_on new = (goes_on ≡ true) × (new ≡ old)
  Follows told (Sends place a) now own old goes_on new = (goes_on ≡ true) × SendsFrom told place a now own old new

  -- the connection at which something is due first gets its turn
  pub record GivesTurn (told : IpAddress → Bool → Type 0) (now : ℕ) (own : List IpCidr) (old : State L) (goes_on : Bool) (new : State L)
      : Type 0 where
    pub turn : Turn
    pub host : Host
    pub takes : TakesTurn now old.host turn host
    pub follows : Follows told turn now own (record old { host = host }) goes_on new

  -- turn after turn, so many
  pub data Turns (told : IpAddress → Bool → Type 0) (now : ℕ) (own : List IpCidr) (old : State L) : ℕ → State L → Type 0 where
    First : Turns told now own old 0 old
    Next : (n : ℕ) → (mid new : State L) → Turns told now own old n mid → GivesTurn told now own mid true new →
        Turns told now own old (n + 1) new

  -- until nothing is due, or 65,536 turns were given
  pub data GivesTurns (told : IpAddress → Bool → Type 0) (now : ℕ) (own : List IpCidr) (old new : State L) : Type 0 where
    AllGiven : (n : ℕ) → (last : State L) → Turns told now own old n last → GivesTurn told now own last false new →
        GivesTurns told now own old new
    ManyGiven : Turns told now own old 65536 new → GivesTurns told now own old new

  pub record Polls (told : IpAddress → Bool → Type 0) (now : ℕ) (own : List IpCidr) (old new : State L) : Type 0 where
    pub after_v4 : State L
    pub after_v6 : State L
    pub hears_v4 : HearsAll told Ipv4 now own old after_v4
    pub hears_v6 : HearsAll told Ipv6 now own after_v4 after_v6
    pub sends : GivesTurns told now own (resumed now after_v6) new
