-- What a host receives, its connections get.
use Rattle.std.proofs.Common.{◌≡◌, ◌≢◌, ◌∙◌, ℕ, ◌<◌, ◌≤◌, ◌+◌, ◌^◌, Bool, true, false, List, [], ◌∷◌, length, Option, Some, None, inl, inr}
use Rattle.std.proofs.Common.{refl, sym, ap, subst, arith}
use Rattle.std.specs.Prelude.{nat_lt, ◌&&◌, ◌⊎◌, not, is_none, IsTrue, if◌then◌else◌}
use Rattle.std.proofs.lemmas.Bool.{cases_eq}
use Rattle.std.proofs.lemmas.List.{length-replicate}
use Rattle.ip_address.specs.declared.cidr.IpCidr.{IpCidr}
use Rattle.ip_address.specs.declared.ip.IpAddress.{IpAddress}
use Rattle.ip_address.specs.Protocol.{number_of}
use Rattle.ip_wire.specs.IpPacket.{src_addr, dst_addr, next_header}
use Rattle.sockets.specs.Raw.{Sent as Packet}
use Rattle.socket_set.specs.SocketSet.{Sockets}
use Rattle.tcp_machine.specs.Connection.{Connection}
use Rattle.tcp_machine.specs.Opening.{accepted}
use Rattle.tcp_machine.specs.Receiving.{open_receiver}
use Rattle.tcp_machine.specs.Segments as machine
use Rattle.tcp_connection.specs.declared.segment.Segment.{Segment}
use Rattle.tcp_connection.specs.Segments.{segment_of}
use Rattle.tcp_host.specs.declared.iss.Endpoints.{Endpoints}
use Rattle.tcp_host.specs.Backlog.{evicted}
use Rattle.tcp_host.specs.Listener as listener
use Rattle.tcp_host.specs.Iss.{iss}
use Rattle.tcp_host.specs.declared.resets.Reply.{Reply}
use Rattle.tcp_host.specs.declared.resets.Reset.{Reset}
use Rattle.tcp_host.specs.Renewal.{is_renewed_by}
use Rattle.tcp_host.specs.Resets.{reset_for, begins}
use Rattle.tcp_host.specs.Host.{Host, slot_at, connection_at, is_let_go, with_alarm, with_connection, vacated, default_mss, link_mss, accepted_settings_for, listener_at, with_listener}
use Rattle.tcp_host.specs.Arrivals.{Delivers, Reopens, accepted_with}
use Rattle.tcp_host.specs.News.{noted, seen_at}
use Rattle.tcp_host.specs.Arrivals.{refused, accepted_at, vacated_if, counted}
use Rattle.tcp_sockets.specs.Arrivals.{HasSegment, is_for_host}
use Rattle.host_machine.proofs.Sockets.TcpSegments.{Tellable, both, means, less, is_set, is_tcp}
use Rattle.tcp_laws.specs.Machines.{Sent, Act, Accepts, Gets, arrived}
use Rattle.tcp_host_laws.specs.Lives.{Life, side_of, Event, Does, newest, begun, after_events, IsLifeOf, Tells}
use Rattle.tcp_host_laws.specs.Lives as lives
use Rattle.tcp_host_laws.specs.Turns.{Came, BySyn, MayFollow}
use Rattle.tcp_host_laws.proofs.LifeLemmas.{after_of, Rests, Steps, Starts, rests_then, rests_starts, steps_rests, tells_rest, tells_step, tells_start}
use Rattle.tcp_host_laws.proofs.HostSteps.{in_or_past, same, alarm_noted_rests, listener_rests, vacated_rests, connection_steps, slot_starts}

-- what happens at a host, without its program
pub record Follows {L : Type 0} (checked : Bool) (own : List IpCidr) (sockets : Sockets L) (ls : List Life) (old new : Host) : Type 0 where
  pub events : List Event
  pub follow : MayFollow checked own sockets ls events
  pub tells : Tells (after_events events ls) new
  pub slots : length new.slots ≡ length old.slots

-- a segment as a connection gets it
abbrev pub got : machine.Segment → Sent
got s = record {
  segment = record {
    number = s.number;
    ack = s.ack;
    window = s.window;
    syn = s.syn;
    fin = s.fin;
    rst = s.rst;
    blocks = [];
    octets = s.octets;
  };
  start = 0;
  acknowledged = 0;
  blocks = [];
}

pub all_of : (a b c : Bool) → a && not b && c ≡ true → (a ≡ true) × (b ≡ false) × (c ≡ true)
all_of true false true e = (refl, refl, refl)
all_of true false false e = absurd cc
all_of true true c e = absurd cc
all_of false b c e = absurd cc

pub no_ack : (o : Option ℕ) → is_none o ≡ true → o ≡ None
no_ack None e = refl
no_ack (Some n) e = absurd cc

first_of : (a b c : Bool) → a && b && c ≡ true → a ≡ true
first_of true b c e = refl
first_of false b c e = absurd cc

-- a place counts as half-open
vacated_before : (o : Option ℕ) (h : Host) → Rests h (vacated_if o h)
vacated_before None h = same h
vacated_before (Some place) h = by (nat_lt place (length h.slots)) where
  by : (b : Bool) → Rests h (if b then vacated place h else h)
  by true = vacated_rests place h
  by false = same h

pub counted_rests : (place index : ℕ) (h : Host) → Rests h (counted place index h)
counted_rests place index h =
    let l = listener.after_syn place (listener_at index h) in
    rests_then h (with_listener index l h) (counted place index h) (listener_rests index l h)
    (vacated_before (evicted (listener_at index h).half_open) (with_listener index l h))

-- a connection that begins at a place, by a SYN that has come or is told
module _ (old : Host) (now : ℕ) (e : Endpoints) where
  abbrev pub act_at : Host → Sent → machine.Options → Act
  act_at mid k options =
      Accepts now (default_mss e.remote_addr) (link_mss mid.config e.remote_addr) (accepted_settings_for mid.config e.remote_addr) k options

  abbrev pub connection_with : (number place size : ℕ) → machine.Segment → Host → Connection
  connection_with number place size a mid =
      accepted now number (connection_at place mid).transmission.sender.room size (default_mss e.remote_addr) (link_mss mid.config e.remote_addr)
      (accepted_settings_for mid.config e.remote_addr) a

  abbrev pub life_at : (number place : ℕ) → Host → Sent → machine.Options → Life
  life_at number place mid k options =
      begun place e number (connection_at place mid).transmission.sender.room (length (connection_at place mid).reception.receiver.cells)
      (act_at mid k options)

  pub starts_at : (number place index : ℕ) (syn : Segment) (k : Sent) (options : machine.Options) (mid : Host) → Rests old mid →
      ((n : ℕ) → connection_with number place n (arrived k.segment options) mid ≡ connection_with number place n (segment_of syn []) mid) →
      Starts place e (side_of (life_at number place mid k options)).connection old (accepted_with number place index now e syn mid)
  starts_at number place index syn k options mid r same_syn =
      let size = length (connection_at place mid).reception.receiver.cells in
      let c = (side_of (life_at number place mid k options)).connection in
      let h = accepted_with number place index now e syn mid in
      let one : Starts place e (connection_with number place size (segment_of syn []) mid) mid h = slot_starts place e _ mid in
      let is : c ≡ connection_with number place size (segment_of syn []) mid =
      same_syn (length (open_receiver size).cells)
      ∙ ap (λ (n : ℕ). connection_with number place n (segment_of syn []) mid) (length-replicate {A = Option ℕ} size None) in
      rests_starts place e c old mid h r (subst (λ (x : Connection). Starts place e x mid h) (sym is) one)

module _ {L : Type 0} (checked : Bool) (own : List IpCidr) (sockets : Sockets L) (ls : List Life) (old : Host) (t : Tells ls old) where
  pub rests : (new : Host) → Rests old new → Follows checked own sockets ls old new
  rests new r = record { events = []; follow = tt; tells = tells_rest ls old new t r; slots = r.slots }

  pub stays : (new : Host) → new ≡ old → Follows checked own sockets ls old new
  stays new e = subst (λ (h : Host). Follows checked own sockets ls old h) (sym e) (rests old (same old))

  -- a segment between these ends came
  module _ (now : ℕ) (e : Endpoints) (s : Segment) (octets : List ℕ) (came : Came checked own sockets e (segment_of s octets)) where
    ends_of : (place : ℕ) → (k : Life) × IsLifeOf place e ls k → (l : Life) → newest place ls ≡ Some l → e ≡ l.ends
    ends_of place k l is =
        let there = k.1.is in
        let same_life : k.0 ≡ l = cc in
        sym k.1.ends ∙ ap (λ (x : Life). x.ends) same_life

    pub delivered : (place : ℕ) (new : Host) → (k : Life) × IsLifeOf place e ls k → Delivers place now e s octets old new →
        Follows checked own sockets ls old new
    delivered place new k d =
        let act = Gets (default_mss e.remote_addr) (link_mss old.config e.remote_addr) now d.arrives.keeps (got (segment_of s octets))
        (segment_of s octets).options in
        let c = connection_at place new in
        let mid = with_connection place c old in
        let steps : Steps place c old new = subst (λ (h : Host). Steps place c old h) (sym d.all_else)
        (steps_rests place c old mid (noted place now (seen_at place old) (with_alarm place 0 mid)) (connection_steps place c old)
        (alarm_noted_rests place 0 now (seen_at place old) mid)) in
        let is : Steps place (after_of 0 act (connection_at place old)) old new = subst (λ (x : Connection). Steps place x old new) d.arrives.is steps in
        record {
          events = Does place act ∷ [];
          follow = ((λ l at. subst (λ (x : Endpoints). Came checked own sockets x (segment_of s octets)) (ends_of place k l at) came), tt);
          tells = tells_step place act ls old new (λ number x. refl) t is;
          slots = steps.slots;
        }

    -- it begins a connection
    accepts : (place index : ℕ) (mid new : Host) → begins s ≡ true → Rests old mid → new ≡ accepted_at place index now e s mid →
        Follows checked own sockets ls old new
    accepts place index mid new begin r is =
        let number = iss mid.config.number_key e now in
        let k = got (segment_of s octets) in
        let options = (segment_of s octets).options in
        let l = life_at old now e number place mid k options in
        let b = all_of s.syn s.rst (is_none s.ack) begin in
        let starts : Starts place e (side_of l).connection old new =
        subst (λ (h : Host). Starts place e (side_of l).connection old h) (sym is)
        (starts_at old now e number place index s k options mid r (λ n. refl)) in
        record {
          events = lives.Begins place e number l.room l.size (act_at old now e mid k options) ∷ [];
          follow = (BySyn came (record { syn = b.0; no_reset = b.1; no_ack = no_ack s.ack b.2 }), tt);
          tells = tells_start place e number l.room l.size (act_at old now e mid k options) ls old new t starts;
          slots = starts.slots;
        }

    pub in_place : (place index : ℕ) (new : Host) → begins s ≡ true → new ≡ accepted_at place index now e s (counted place index old) →
        Follows checked own sockets ls old new
    in_place place index new begin is = accepts place index (counted place index old) new begin (counted_rests place index old) is

    pub reopened : (place index : ℕ) (new : Host) → Reopens now e s place old index →
        new ≡ accepted_at place index now e s (counted place index (vacated place old)) → Follows checked own sockets ls old new
    reopened place index new reopens is =
        let free = vacated place old in
        accepts place index (counted place index free) new
        (first_of (begins s) (is_let_go (slot_at place old).owner)
        (is_renewed_by s.number (iss old.config.number_key e now) (connection_at place old)) reopens.renewed)
        (rests_then old free (counted place index free) (vacated_rests place old) (counted_rests place index free)) is

    -- or nobody wants it
    refused_rests : (o : Option Reset) → Rests old (refused now o old).1
    refused_rests None = same old
    refused_rests (Some r) = record { slots = refl; connections = λ q. refl; ends = λ q d is. is }

    pub refuse : (answer : Option Reply) (new : Host) → (answer, new) ≡ refused now (reset_for s (length octets)) old →
        Follows checked own sockets ls old new
    refuse answer new is = rests new (subst (λ (x : Option Reply × Host). Rests old x.1) (sym is) (refused_rests (reset_for s (length octets))))

-- whether a packet has a segment for a host can be told
pub has_segment : (checked : Bool) (own : List IpCidr) (p : Packet) → Tellable (HasSegment checked own p)
has_segment checked own p =
    means (λ x. record { of_tcp = x.0; for_host = x.1.0; most = x.1.1.0; segment = x.1.1.1 }) (λ h. (h.of_tcp, (h.for_host, (h.most, h.segment))))
    (both (cases_eq (number_of (next_header p.header)) 6) (both (is_set (is_for_host own (src_addr p.header) (dst_addr p.header)))
    (both (less (length p.payload) (2 ^ 16)) (is_tcp checked (src_addr p.header) (dst_addr p.header) p.payload))))
