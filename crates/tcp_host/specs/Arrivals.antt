-- A segment arrives at a host (RFC 9293 3.10.7): to which connection it goes, or which it begins, or what answers it.
use Rattle.std.specs.Prelude.{◌≡◌, ◌<◌, ◌≤◌, ℕ, ◌+◌, ◌-◌, ◌%◌, ◌^◌, nat_lt, true, false, List, [], ◌∷◌, length, Option, Some, None, is_some, if◌then◌else◌, Bool, ◌&&◌, ◌||◌}
use Rattle.net_base.specs.Bucket.{has_token, after_take}
use Rattle.tcp_machine.specs.Connection.{Connection}
use Rattle.tcp_machine.specs.Opening.{Arrives, accepted}
use Rattle.tcp_machine.specs.Outgoing.{syn_segment}
use Rattle.tcp_connection.specs.Actions.{header_of, after_sending}
use Rattle.tcp_connection.specs.declared.segment.Segment.{Segment}
use Rattle.tcp_connection.specs.Segments.{segment_of}
use Rattle.tcp_host.specs.declared.iss.Endpoints.{Endpoints}
use Rattle.ip_address.specs.Ip.{is_unicast}
use Rattle.tcp_host.specs.Iss.{iss}
use Rattle.tcp_host.specs.Listener as listener
use Rattle.tcp_host.specs.Backlog.{first_of, after_evicting, evicted}
use Rattle.tcp_host.specs.Cookies.{cookie, size_in}
use Rattle.tcp_host.specs.declared.resets.Reply.{Reply}
use Rattle.tcp_host.specs.declared.resets.Reply.TheVariants as reply
use Rattle.tcp_host.specs.declared.resets.Reset.{Reset}
use Rattle.tcp_host.specs.declared.resets.SynAck.{SynAck}
use Rattle.tcp_host.specs.declared.slot.Owner.TheVariants.{HalfOpen}
use Rattle.tcp_host.specs.Host.{Host, slot_at, connection_at, is_let_go, with_connection, with_alarm, vacated, occupied, default_mss, link_mss, accepted_settings_for}
use Rattle.tcp_host.specs.Host.{IsNextPlace, listener_at, with_listener}
use Rattle.tcp_host.specs.News.{noted, seen_at}
use Rattle.tcp_host.specs.Table.{IsPlaceOf, IsNowhere}
use Rattle.tcp_host.specs.Renewal.{is_renewed_by}
use Rattle.tcp_host.specs.Resets.{reset_for, begins}

-- It goes to the connection at a place: that alone changes, as its machine says, something is due there at once, and its program is to be
-- told of what it sees
pub record Delivers (place now : ℕ) (e : Endpoints) (s : Segment) (octets : List ℕ) (old new : Host) : Type 0 where
  pub arrives : Arrives (default_mss e.remote_addr) (link_mss old.config e.remote_addr) now (segment_of s octets)
      (connection_at place old) (connection_at place new)
  pub all_else : new ≡ noted place now (seen_at place old) (with_alarm place 0 (with_connection place (connection_at place new) old))

-- nobody wants it: a reset is owed, unless too many were sent
abbrev pub refused : ℕ → Option Reset → Host → Option Reply × Host
refused now None h = (None, h)
refused now (Some r) h =
    (if has_token now h.resets then Some (reply.Reset r) else None, record h { resets = after_take now h.resets })

-- the listener for a local end, the first that there is
pub record IsListenerFor (e : Endpoints) (h : Host) (index : ℕ) : Type 0 where
  pub within : index < length h.listeners
  pub listens : listener.listens_at e.local_addr e.local_port (listener_at index h) ≡ true

abbrev pub HasNoListener : Endpoints → Host → Type 0
HasNoListener e h = (k : ℕ) → k < length h.listeners → listener.listens_at e.local_addr e.local_port (listener_at k h) ≡ false

-- the connection that a SYN begins at a place, with an own initial number
abbrev pub accepted_with : (number place index now : ℕ) → Endpoints → Segment → Host → Host
accepted_with number place index now e s h =
    occupied place e (HalfOpen index)
    (accepted now number (connection_at place h).transmission.sender.room
    (length (connection_at place h).reception.receiver.cells) (default_mss e.remote_addr) (link_mss h.config e.remote_addr)
    (accepted_settings_for h.config e.remote_addr) (segment_of s [])) h

abbrev pub accepted_at : (place index now : ℕ) → Endpoints → Segment → Host → Host
accepted_at place index now e s h = accepted_with (iss h.config.number_key e now) place index now e s h

-- a place is none of a listener's any more
abbrev pub vacated_if : Option ℕ → Host → Host
vacated_if None h = h
vacated_if (Some place) h = if nat_lt place (length h.slots) then vacated place h else h

-- the place counts as half-open; if that is one too many, the oldest one's connection is gone
abbrev pub counted : (place index : ℕ) → Host → Host
counted place index h =
    vacated_if (evicted (listener_at index h).half_open) (with_listener index (listener.after_syn place (listener_at index h)) h)

-- the oldest half-open connection of a listener counts no more
abbrev pub without_oldest : ℕ → Host → Host
without_oldest index h =
    with_listener index (record (listener_at index h) { half_open = after_evicting (listener_at index h).half_open }) h

abbrev pub if_within : ℕ → Option ℕ → Option ℕ
if_within n None = None
if_within n (Some place) = if nat_lt place n then Some place else None

abbrev pub oldest_in : ℕ → Host → Option ℕ
oldest_in index h = if_within (length h.slots) (first_of (listener_at index h).half_open.places)

abbrev pub half_open_count : ℕ → Host → ℕ
half_open_count index h = length (listener_at index h).half_open.places

-- a listener has half-open connections, and none of the first n has more
pub record HasMost (n : ℕ) (h : Host) (index : ℕ) : Type 0 where
  pub within : index < n
  pub some : is_some (oldest_in index h) ≡ true
  pub most : (k : ℕ) → k < n → is_some (oldest_in k h) ≡ true → half_open_count k h ≤ half_open_count index h

abbrev pub HasNoHalfOpen : ℕ → Host → Type 0
HasNoHalfOpen n h = (k : ℕ) → k < n → oldest_in k h ≡ None

abbrev pub IsFullest : ℕ → Host → Option ℕ → Type 0
IsFullest n h None = HasNoHalfOpen n h
IsFullest n h (Some index) = HasMost n h index

-- Half-open connections hold only places that nobody else needs (RFC 4987 3.2): where no place is free, the oldest one gives its
-- place, of a listener that has the most of them
pub data FindsPlace (old : Host) (place : ℕ) (ready : Host) : Type 0 where
  Free : IsNextPlace old (Some place) → ready ≡ old → FindsPlace old place ready
  OfHalfOpen : (from : ℕ) → IsNextPlace old None → HasMost (length old.listeners) old from → oldest_in from old ≡ Some place →
      ready ≡ vacated place (without_oldest from old) → FindsPlace old place ready

-- no place is free, nor held by a connection in TIME-WAIT of which the program let go, nor by one that is half-open
pub record HasNoPlace (h : Host) : Type 0 where
  pub none : IsNextPlace h None
  pub no_half_open : HasNoHalfOpen (length h.listeners) h

-- a place may be had: one is free, or a half-open connection holds one
pub data MayHavePlace (h : Host) : Type 0 where
  IsFree : (place : ℕ) → IsNextPlace h (Some place) → MayHavePlace h
  IsHalfOpen : (from : ℕ) → HasMost (length h.listeners) h from → MayHavePlace h

-- A listener's connections hold no more places: as many are half-open as may be, or none is free
abbrev pub is_full : ℕ → Host → Bool
is_full index h = listener.is_full (listener_at index h)

pub data IsCrowded (index : ℕ) (h : Host) : Type 0 where
  Full : is_full index h ≡ true → IsCrowded index h
  NoneFree : IsNextPlace h None → IsCrowded index h

-- A SYN is answered, and nothing is kept of it (RFC 4987 3.6): by the SYN-ACK of a connection that it would begin, whose number is a
-- cookie. The cookie tells the peer's MSS
abbrev pub mss_or : (default : ℕ) → Option ℕ → ℕ
mss_or default None = default
mss_or default (Some mss) = mss

abbrev pub told_mss : Endpoints → Segment → ℕ
told_mss e s = mss_or (default_mss e.remote_addr) s.mss

abbrev pub cookie_for : (now : ℕ) → Endpoints → Segment → Host → ℕ
cookie_for now e s h = cookie h.config.table_key e s.number now (told_mss e s)

abbrev pub unkept : (now : ℕ) → Endpoints → Segment → Host → Connection
unkept now e s h =
    accepted now (cookie_for now e s h) h.config.send_room h.config.receive_room (default_mss e.remote_addr)
    (link_mss h.config e.remote_addr) (accepted_settings_for h.config e.remote_addr) (segment_of s [])

abbrev pub syn_ack : (now : ℕ) → Endpoints → Segment → Host → SynAck
syn_ack now e s h = record { header = header_of (syn_segment (unkept now e s h)); mss = link_mss h.config e.remote_addr }

-- A SYN for a listener (RFC 9293 3.10.7.2). It is left while as many connections as may be wait for the program, and while open ones hold
-- all places, so that a peer isn't told of a connection that can't be had
pub data Begins (index now : ℕ) (e : Endpoints) (s : Segment) (old : Host) (answer : Option Reply) (new : Host) : Type 0 where
  TooMany : listener.has_room (listener_at index old) ≡ false → answer ≡ None → new ≡ old → Begins index now e s old answer new
  NoPlace : listener.has_room (listener_at index old) ≡ true → HasNoPlace old → answer ≡ None → new ≡ old →
      Begins index now e s old answer new
  Unkept : listener.has_room (listener_at index old) ≡ true → IsCrowded index old → MayHavePlace old →
      answer ≡ Some (reply.Cookie (syn_ack now e s old)) →
      new ≡ old → Begins index now e s old answer new
  InPlace : (place : ℕ) → listener.has_room (listener_at index old) ≡ true → is_full index old ≡ false → IsNextPlace old (Some place) →
      answer ≡ None → new ≡ accepted_at place index now e s (counted place index old) → Begins index now e s old answer new

-- The MSS that a segment tells by the cookie that it acknowledges, if there is one: its numbers are one more than the peer's SYN's and
-- than the cookie
abbrev pub before : ℕ → ℕ
before n = (n + (2 ^ 32 - 1)) % 2 ^ 32

abbrev pub mss_by : (now : ℕ) → Endpoints → Segment → (ack : Option ℕ) → Host → Option ℕ
mss_by now e s None h = None
mss_by now e s (Some n) h =
    if s.syn || s.rst then None else size_in h.config.table_key e (before s.number) now (before n)

abbrev pub mss_in : (now : ℕ) → Endpoints → Segment → Host → Option ℕ
mss_in now e s h = mss_by now e s s.ack h

-- the SYN that was answered so, as far as it is known
abbrev pub told_syn : Segment → (mss : ℕ) → Segment
told_syn s mss = record {
  number = before s.number;
  ack = None;
  window = s.window;
  syn = true;
  fin = false;
  rst = false;
  mss = Some mss;
  scale = None;
  sack_permitted = false;
  blocks = None ∷ None ∷ None ∷ None ∷ [];
}

-- what a connection at a place sends now was sent
abbrev pub answered_at : (place now : ℕ) → Host → Host
answered_at place now h = with_connection place (after_sending now (connection_at place h)) h

-- A connection begins at a place by an acknowledgement of a cookie: as if its SYN had been taken, and answered
abbrev pub resumed_at : (number place index now : ℕ) → Endpoints → Segment → (mss : ℕ) → Host → Host
resumed_at number place index now e s mss h =
    answered_at place now (accepted_with number place index now e (told_syn s mss) (counted place index h))

-- and then the acknowledgement arrives there. It is left, if no place is to be had, or as many connections as may be wait for the program
pub data Resumes (number mss index now : ℕ) (e : Endpoints) (s : Segment) (octets : List ℕ) (old new : Host) : Type 0 where
  NotTaken : listener.has_room (listener_at index old) ≡ false → new ≡ old → Resumes number mss index now e s octets old new
  Unplaced : listener.has_room (listener_at index old) ≡ true → HasNoPlace old → new ≡ old → Resumes number mss index now e s octets old new
  AtPlace : (place : ℕ) (ready : Host) → listener.has_room (listener_at index old) ≡ true → FindsPlace old place ready →
      Delivers place now e s octets (resumed_at number place index now e s mss ready) new →
      Resumes number mss index now e s octets old new

-- A SYN whose connection may follow the one at a place, of which the program let go (RFC 9293 3.6.1)
abbrev pub is_renewed : (now : ℕ) → Endpoints → Segment → (place : ℕ) → Host → Bool
is_renewed now e s place h =
    begins s && is_let_go (slot_at place h).owner && is_renewed_by s.number (iss h.config.number_key e now) (connection_at place h)

-- it reopens that one, if a listener takes it; otherwise it is for that connection, as any other segment
pub record Reopens (now : ℕ) (e : Endpoints) (s : Segment) (place : ℕ) (h : Host) (index : ℕ) : Type 0 where
  pub renewed : is_renewed now e s place h ≡ true
  pub listens : IsListenerFor e h index
  pub room : listener.has_room (listener_at index h) ≡ true

pub data IsKept (now : ℕ) (e : Endpoints) (s : Segment) (place : ℕ) (h : Host) : Type 0 where
  NotRenewed : is_renewed now e s place h ≡ false → IsKept now e s place h
  NoListener : HasNoListener e h → IsKept now e s place h
  NoRoom : (index : ℕ) → IsListenerFor e h index → listener.has_room (listener_at index h) ≡ false → IsKept now e s place h

-- both ends are one host's: nothing else begins a connection, and nothing else is answered (RFC 9293 3.9.2.3, RFC 1122 4.2.3.10)
abbrev pub is_proper : Endpoints → Bool
is_proper e = is_unicast e.local_addr && is_unicast e.remote_addr

-- where a segment between these ends goes
pub data Receives (now : ℕ) (e : Endpoints) (s : Segment) (octets : List ℕ) (old : Host) (answer : Option Reply) (new : Host) : Type 0 where
  Known : (place : ℕ) → IsPlaceOf e old.ends place → IsKept now e s place old → answer ≡ None → Delivers place now e s octets old new →
      Receives now e s octets old answer new
  Reopened : (place : ℕ) → IsPlaceOf e old.ends place → (index : ℕ) → Reopens now e s place old index → answer ≡ None →
      new ≡ accepted_at place index now e s (counted place index (vacated place old)) → Receives now e s octets old answer new
  Improper : IsNowhere e old.ends → is_proper e ≡ false → answer ≡ None → new ≡ old → Receives now e s octets old answer new
  Begun : IsNowhere e old.ends → is_proper e ≡ true → (index : ℕ) → IsListenerFor e old index → begins s ≡ true →
      Begins index now e s old answer new → Receives now e s octets old answer new
  Resumed : IsNowhere e old.ends → is_proper e ≡ true → (index : ℕ) → IsListenerFor e old index → (n mss : ℕ) → s.ack ≡ Some n →
      mss_in now e s old ≡ Some mss → answer ≡ None → Resumes (before n) mss index now e s octets old new → Receives now e s octets old answer new
  Unheeded : IsNowhere e old.ends → is_proper e ≡ true → (index : ℕ) → IsListenerFor e old index → begins s ≡ false → is_some s.ack ≡ false → answer ≡ None →
      new ≡ old → Receives now e s octets old answer new
  Answered : IsNowhere e old.ends → is_proper e ≡ true → (index : ℕ) → IsListenerFor e old index → is_some s.ack ≡ true →
      mss_in now e s old ≡ None → (answer, new) ≡ refused now (reset_for s (length octets)) old → Receives now e s octets old answer new
  Nobody : IsNowhere e old.ends → is_proper e ≡ true → HasNoListener e old → (answer, new) ≡ refused now (reset_for s (length octets)) old →
      Receives now e s octets old answer new
