-- How a connection comes to be (RFC 9293 3.5, 3.10.1, 3.10.7.2, 3.10.7.3).
use Rattle.std.specs.Prelude.{◌≡◌, ℕ, ◌+◌, min, max, ◌&&◌, not, Bool, true, false, [], Option, Some, None, is_some, if◌then◌else◌}
use Rattle.tcp_machine.specs.declared.settings.Settings.{Settings}
use Rattle.tcp_machine.specs.declared.timers.Timers.{Timers}
use Rattle.tcp_machine.specs.declared.timers.Owed.TheVariants.{Nothing, AtOnce}
use Rattle.tcp_machine.specs.declared.timers.Pending.TheVariants.{Empty, Reset}
use Rattle.tcp_machine.specs.declared.timers.Ending.TheVariants.{Refused}
use Rattle.tcp_machine.specs.declared.state.State.{State}
use Rattle.tcp_machine.specs.declared.state.State.TheVariants.{Closed, Listen, SynSent, SynReceived}
use Rattle.tcp_machine.specs.Positions.{number_at}
use Rattle.tcp_machine.specs.Sending.{open_sender}
use Rattle.tcp_machine.specs.Receiving.{Receiver, open_receiver, is_at}
use Rattle.tcp_machine.specs.Estimator.{new_estimator}
use Rattle.tcp_machine.specs.Congestion.{first_congestion, new_congestion}
use Rattle.tcp_machine.specs.Path.{new_path}
use Rattle.tcp_machine.specs.Connection.{Connection, Transmission, Reception}
use Rattle.tcp_machine.specs.Pieces.{Piece}
use Rattle.tcp_machine.specs.Segments.{Segment, acceptable_piece}
use Rattle.tcp_machine.specs.Acknowledgements.{with_pending}
use Rattle.tcp_machine.specs.Arrivals.{ended, established, with_owed, heard, after_segment_arrives, MayBeLeft}

-- the bounds of MSS: without the option 536, or 1,220 over IPv6 (RFC 9293 3.7.1); at least 88, and at most what is sent
-- over the link
abbrev pub mss_from : (default link : ℕ) → Option ℕ → ℕ
mss_from default link None = min default link
mss_from default link (Some mss) = min (max 88 mss) link

-- the greatest window scale (RFC 7323 2.3)
abbrev pub scale_from : Option ℕ → ℕ
scale_from None = 0
scale_from (Some scale) = min 14 scale

-- windows are scaled if both sides offer it (RFC 7323 1.3)
abbrev pub own_scale_for : ℕ → Option ℕ → ℕ
own_scale_for own None = 0
own_scale_for own (Some scale) = own

abbrev pub no_transmission : ℕ → ℕ → Transmission
no_transmission room mss = record {
  sender = open_sender room 0;
  nxt = 0;
  told_edge = 1;
  largest_window = 0;
  wl1 = 0;
  wl2 = 0;
  scale = 0;
  mss = mss;
  path = new_path mss mss;
  told = [];
  resent = 0;
}

abbrev pub no_reception : ℕ → Reception
no_reception room = record {
  receiver = open_receiver room;
  promised = 1;
  scale = 0;
  owed = Nothing;
  unacknowledged = 0;
  sack_permitted = false;
  latest = 0;
}

abbrev pub timers_at : ℕ → Timers
timers_at now = record {
  resend_at = None;
  tries = 0;
  measured = None;
  heard_at = now;
  probes = 0;
  idle_since = now;
  sent_at = now;
  waiting_since = None;
  ends_at = None;
}

-- what a program opens to a peer (RFC 9293 3.10.1, active): a SYN is to be sent
abbrev pub opened : (now iss send_room receive_room mss : ℕ) → Settings → Connection
opened now iss send_room receive_room mss settings = record {
  state = SynSent;
  is_active = true;
  local = iss;
  remote = 0;
  settings = settings;
  transmission = no_transmission send_room mss;
  reception = no_reception receive_room;
  estimator = new_estimator;
  congestion = new_congestion mss;
  timers = timers_at now;
  pending = Empty;
  ending = None;
}

-- the peer's SYN: its initial number, its options, and its window, which isn't scaled (RFC 9293 3.10.7.2; RFC 7323 2.2)
abbrev pub with_syn : (default link : ℕ) → Segment → Connection → Connection
with_syn default link s c =
    let mss = mss_from default link s.options.mss in
    record c {
      remote = s.number;
      transmission = record c.transmission {
        told_edge = 1 + s.window;
        largest_window = s.window;
        scale = scale_from s.options.scale;
        mss = mss;
        path = new_path default mss;
        sender = record c.transmission.sender { edge = 1 + s.window };
      };
      reception = record c.reception {
        scale = own_scale_for c.settings.own_scale s.options.scale;
        sack_permitted = s.options.sack_permitted;
      };
      congestion = first_congestion c.timers.tries mss;
    }

-- a SYN arrives at a listener (RFC 9293 3.10.7.2): the connection that it begins. What else the segment carries is left,
-- and the peer sends it again
abbrev pub accepted : (now iss send_room receive_room default link : ℕ) → Settings → Segment → Connection
accepted now iss send_room receive_room default link settings s =
    record (with_syn default link s (opened now iss send_room receive_room link settings)) {
      state = SynReceived;
      is_active = false;
      reception = record (no_reception receive_room) {
        scale = own_scale_for settings.own_scale s.options.scale;
        sack_permitted = s.options.sack_permitted;
        owed = AtOnce;
      };
    }

-- A segment arrives in SYN-SENT (RFC 9293 3.10.7.3). An acknowledgement of anything but the own SYN is answered by a
-- reset. The SYN was sent, if something has been unacknowledged; it may be to be sent again by now
abbrev pub is_acknowledgement_of_syn : Segment → Connection → Bool
is_acknowledgement_of_syn s c = is_at s.ack (number_at c.local 1) && is_some c.timers.waiting_since

abbrev pub after_wrong_ack : Option ℕ → Segment → Connection → Connection
after_wrong_ack None s c = c
after_wrong_ack (Some n) s c = if s.rst then c else with_pending (Reset n) c

-- the peer's SYN arrives: with the acknowledgement of the own one the connection is established, without it both sides
-- opened at once
abbrev pub after_syn : (default link now : ℕ) → (is_acknowledged : Bool) → Segment → Connection → Connection
after_syn default link now is_acknowledged s c =
    with_owed AtOnce
    (if is_acknowledged then established (with_syn default link s (heard now c))
    else record (with_syn default link s (heard now c)) { state = SynReceived })

abbrev pub after_arrival_in_syn_sent : (default link now : ℕ) → Segment → Connection → Connection
after_arrival_in_syn_sent default link now s c =
    if is_acknowledgement_of_syn s c then
    (if s.rst then ended (Some Refused) c else if s.syn then after_syn default link now true s c else c)
    else if is_some s.ack then after_wrong_ack s.ack s c
    else if s.syn && not s.rst then after_syn default link now false s c
    else c

-- A segment arrives at a connection. In CLOSED and LISTEN there is none, and the host answers
abbrev pub after_arrival_in : State → (default link now : ℕ) → (keeps : Bool) → Segment → Connection → Connection
after_arrival_in SynSent default link now keeps s c = after_arrival_in_syn_sent default link now s c
after_arrival_in Closed default link now keeps s c = c
after_arrival_in Listen default link now keeps s c = c
after_arrival_in state default link now keeps s c = after_segment_arrives now keeps s c

abbrev pub after_arrival : (default link now : ℕ) → (keeps : Bool) → Segment → Connection → Connection
after_arrival default link now keeps s c = after_arrival_in c.state default link now keeps s c

-- what may be left of a segment
abbrev pub MayLeave : Option Piece → Receiver → Type 0
MayLeave None r = Unit {0}
MayLeave (Some p) r = MayBeLeft p r

-- what a segment's arrival may come to
pub record Arrives (default link now : ℕ) (s : Segment) (old new : Connection) : Type 0 where
  pub keeps : Bool
  pub left : keeps ≡ false → MayLeave (acceptable_piece old s) old.reception.receiver
  pub is : new ≡ after_arrival default link now keeps s old
