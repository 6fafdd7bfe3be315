-- Over runs of two connections.
use Rattle.std.proofs.Common.{◌≡◌, ◌≤◌, ◌+◌, ◌-◌, ◌^◌, ℕ, zero, suc, Bool, true, false, List, [], ◌∷◌, ◌++◌, length, take, drop}
use Rattle.std.proofs.Common.{refl, sym, ap, ◌∙◌, subst, arith, Option, Some, None, inl, inr}
use Rattle.std.specs.Prelude.{min, ◌==◌, ◌&&◌, ◌⊎◌, is_none, if◌then◌else◌}
use Rattle.std.specs.List.{Contains}
use Rattle.std.proofs.lemmas.Bool.Decides.{nat_tests}
use Rattle.std.proofs.lemmas.List.{length-take, length-take-le, take-append-drop, take_all, length-replicate}
use Rattle.std.proofs.lemmas.List.Elements.{All-nil, All-contains}
use Rattle.tcp_machine.specs.declared.settings.Settings.{Settings}
use Rattle.tcp_machine.specs.declared.state.State.{State}
use Rattle.tcp_machine.specs.declared.state.State.TheVariants.{Closed, Listen, SynSent, SynReceived, Established, FinWait1}
use Rattle.tcp_machine.specs.declared.state.State.TheVariants.{FinWait2, CloseWait, Closing, LastAck, TimeWait}
use Rattle.tcp_machine.specs.Positions.{IsNear}
use Rattle.tcp_machine.specs.Pieces.{IsBeginning}
use Rattle.tcp_machine.specs.Sending.{Sender, open_sender, after_write}
use Rattle.tcp_machine.specs.Receiving.{Receiver, open_receiver, in_order, next, expected, is_at, after_read}
use Rattle.tcp_machine.specs.States.{is_opening, is_synchronized, may_write}
use Rattle.tcp_machine.specs.Connection.{Connection}
use Rattle.tcp_machine.specs.Segments.{Segment, Options}
use Rattle.tcp_machine.specs.Arrivals.{after_segment_arrives}
use Rattle.tcp_machine.specs.Outgoing.{Action, action, is_syn_sent}
use Rattle.tcp_machine.specs.Opening.{after_arrival_in, after_arrival}
use Rattle.tcp_machine.specs.Calls.{last_position, room_to_write, taken, after_writing, readable, readable_count, read_of, after_reading}
use Rattle.tcp_laws.specs.Machines.{Sent, Side, unopened, IsPlain, arrived, MayArrive, Act, Opens, Accepts, Writes, Reads, Closes, Aborts}
use Rattle.tcp_laws.specs.Machines.{Chooses, Fits, Fails, Gets, Expires, Sends, MayAct, after_sending, after_act, Pair, Move, OfA, OfB}
use Rattle.tcp_laws.specs.Machines.{after_move, AreMoves, after_moves, StreamHolds, MachinesKeep}
use Rattle.tcp_laws.proofs.Lists.{no_hole}
use Rattle.tcp_laws.proofs.ReceivingSteps.{false_true, first_of_two, is_at_some, next_expected, expected_top, read_octets, append_taken, at_most_one}
use Rattle.tcp_laws.proofs.Runs.{append_none, no_end}
use Rattle.tcp_laws.proofs.MachineStands.{SentStands, Given, Carries, Owns, Streams, Known, Asking, Gone, Knows}
use Rattle.tcp_laws.proofs.MachineStands.{Good, Idle}
use Rattle.tcp_laws.proofs.MachineStreams.{top_near, edged, wrote, got}
use Rattle.tcp_laws.proofs.MachineArrivals.{IsLow, gets_plain, gets_syn, gets_reset, last_of}
use Rattle.tcp_laws.proofs.MachineTimers.{expires, closes_down, aborts, told_shorter, fails, gets_asking, is_open}
use Rattle.tcp_laws.proofs.MachineSends.{IsSent, sends_good}

-- the numbers of a connection in its phase, apart from the streams
abbrev pub Numbers : ℕ → ℕ → Connection → Type 0
Numbers i j c =
    Known i j c.local c.remote c.state c.transmission.nxt c.transmission.sender.una c.transmission.sender.top
    ⊎ (Asking i c.local c.state c.transmission.nxt c.transmission.sender.una c.transmission.sender.top
    ⊎ Gone i c.local c.state c.pending c.timers.resend_at)

good : (g : Given) (c : Connection) → Numbers g.i g.j c → Streams g c.transmission.sender c.reception.receiver → Good g c
good g c (inl n) h = inl (n, h)
good g c (inr (inl n)) h = inr (inl (n, h))
good g c (inr (inr n)) h = inr (inr (n, h))

numbers : (g : Given) (c : Connection) → Good g c → Numbers g.i g.j c
numbers g c (inl h) = inl h.0
numbers g c (inr (inl h)) = inr (inl h.0)
numbers g c (inr (inr h)) = inr (inr h.0)

streams : (g : Given) (c : Connection) → Good g c → Streams g c.transmission.sender c.reception.receiver
streams g c (inl h) = h.1
streams g c (inr (inl h)) = h.1
streams g c (inr (inr h)) = h.1

-- what doesn't change: the initial numbers and the rooms of this side, and those of the other one
pub record Ends : Type 0 where
  pub i : ℕ
  pub j : ℕ
  pub room : ℕ
  pub size : ℕ
  pub peers_room : ℕ
  pub peers_size : ℕ

abbrev pub turned : Ends → Ends
turned e = record {
  i = e.j;
  j = e.i;
  room = e.peers_room;
  size = e.peers_size;
  peers_room = e.room;
  peers_size = e.size;
}

abbrev pub given : Ends → Side → Side → Given
given e x y = record {
  i = e.i;
  j = e.j;
  room = e.room;
  size = e.size;
  peers_size = e.peers_size;
  sent = x.sent;
  written = x.written;
  read = x.read;
  peer = y;
}

-- one side begun, or not yet
pub record Phase (i j room size : ℕ) (x : Side) : Type 0 where
  pub begun : x.is_begun ≡ true → Numbers i j x.connection
  pub idle : x.is_begun ≡ false → Idle room size x

pub record Holds (e : Ends) (x y : Side) : Type 0 where
  pub streams : Streams (given e x y) x.connection.transmission.sender x.connection.reception.receiver
  pub peer : Owns e.j e.i e.peers_room y.connection.transmission.sender y.connection.reception.receiver y.written y.sent
  pub mine : Phase e.i e.j e.room e.size x
  pub peers : Phase e.j e.i e.peers_room e.peers_size y

-- seen from the other side
pub turns : (e : Ends) (x y : Side) → Holds e x y → Holds (turned e) y x
turns e x y h = record {
  streams = record { own = h.peer; there = h.streams.here; here = h.streams.there };
  peer = h.streams.own;
  mine = h.peers;
  peers = h.mine;
}

-- this side has become another one
begun_side : (e : Ends) (x y x' : Side) → Holds e x y → x'.is_begun ≡ true → Good (given e x' y) x'.connection → Holds e x' y
begun_side e x y x' h begun g = record {
  streams = streams (given e x' y) x'.connection g;
  peer = h.peer;
  mine = record {
    begun = λ _. numbers (given e x' y) x'.connection g;
    idle = λ f. false_true (sym f ∙ begun);
  };
  peers = h.peers;
}

goods : (e : Ends) (x y : Side) → Holds e x y → x.is_begun ≡ true → Good (given e x y) x.connection
goods e x y h begun = good (given e x y) x.connection (h.mine.begun begun) h.streams

-- it begins
module _ (e : Ends) (x y : Side) (h : Holds e x y) (unbegun : x.is_begun ≡ false) where
  first_sender : open_sender x.connection.transmission.sender.room 0 ≡ x.connection.transmission.sender
  first_sender =
      let s = (h.mine.idle unbegun).sender in
      ap (λ (t : Sender). open_sender t.room 0) s ∙ sym s

  first_receiver : open_receiver (length x.connection.reception.receiver.cells) ≡ x.connection.reception.receiver
  first_receiver =
      let r = (h.mine.idle unbegun).receiver in
      ap (λ (t : Receiver). open_receiver (length t.cells)) r ∙ ap open_receiver (length-replicate {A = Option ℕ} e.size None) ∙ sym r

  first_streams : Streams (given e x y) (open_sender x.connection.transmission.sender.room 0)
      (open_receiver (length x.connection.reception.receiver.cells))
  first_streams =
      subst (λ s. Streams (given e x y) s (open_receiver (length x.connection.reception.receiver.cells))) (sym first_sender)
      (subst (λ r. Streams (given e x y) x.connection.transmission.sender r) (sym first_receiver) h.streams)

  begins_open : (now mss : ℕ) (settings : Settings) → Holds e (after_act e.i (Opens now mss settings) x) y
  begins_open now mss settings =
      begun_side e x y (after_act e.i (Opens now mss settings) x) h refl (inr (inl (
        record { local = refl; state = refl; nxt = omega arith; una = refl },
        first_streams,
      )))

  begins_accept : (now default link : ℕ) (settings : Settings) (k : Sent) (options : Options) → Contains y.sent k → k.segment.syn ≡ true →
      Holds e (after_act e.i (Accepts now default link settings k options) x) y
  begins_accept now default link settings k options there syn =
      let st = All-contains (SentStands e.j e.i y.connection.transmission.sender y.written y.connection.reception.receiver) y.sent k
      h.peer.sent there in
      begun_side e x y (after_act e.i (Accepts now default link settings k options) x) h refl (inl (
        record {
          local = refl;
          remote = st.syn syn;
          nxt = omega arith;
          una = λ f. false_true f;
          opening = λ _. refl;
          asks = refl;
        },
        edged (given e x y) (open_sender x.connection.transmission.sender.room 0)
            (open_receiver (length x.connection.reception.receiver.cells)) [] (1 + k.segment.window) refl first_streams,
      ))

-- the program writes
fits : (n r l a : ℕ) → l ≤ r → l + min n (min (r - l) a) ≤ r
fits n r l a h = grind arith

at_least : (a b l : ℕ) → l ≡ min a b → l ≤ a
at_least a b l e = grind arith

take_none : (xs : List ℕ) → take 0 xs ≡ []
take_none [] = refl
take_none (x ∷ xs) = refl

module _ (g : Given) (c : Connection) (octets : List ℕ) (h : Streams g c.transmission.sender c.reception.receiver) where
  writes_none : Streams (record g { written = g.written ++ [] }) (after_write [] c.transmission.sender) c.reception.receiver
  writes_none =
      let s = c.transmission.sender in
      subst (λ v. Streams (record g { written = v }) (record s { ring = s.ring ++ [] }) c.reception.receiver) (sym (append_none g.written))
      (edged g s c.reception.receiver (s.ring ++ []) s.edge (append_none s.ring) h)

  writes_some : (b : Bool) → may_write c.state && is_none c.transmission.sender.stop ≡ b →
      Streams (record g {
        written = g.written ++ take (if b then min (length octets) (room_to_write c.transmission.sender) else 0) octets;
      }) (after_write (take (if b then min (length octets) (room_to_write c.transmission.sender) else 0) octets) c.transmission.sender)
      c.reception.receiver
  writes_some true e =
      let s = c.transmission.sender in
      let n = min (length octets) (room_to_write s) in
      let o = h.own in
      let room = o.room in
      let ring = o.ring in
      let low : length s.ring ≤ s.room = omega (arith, room, ring) in
      let m = length-take n octets in
      let f = fits (length octets) s.room (length s.ring) (last_position - (s.una + length s.ring)) low in
      let small : length (take n octets) ≤ n = at_least n (length octets) (length (take n octets)) m in
      wrote g s c.reception.receiver (take n octets) (record {
        opened = is_open s.stop (last_of (may_write c.state) (is_none s.stop) e);
        room = omega (arith, f, small);
      }) h
  writes_some false e =
      subst (λ v. Streams (record g { written = g.written ++ v }) (after_write v c.transmission.sender) c.reception.receiver)
      (sym (take_none octets)) writes_none

  writes_good : Streams (record g { written = g.written ++ take (taken (length octets) c) octets })
      (after_write (take (taken (length octets) c) octets) c.transmission.sender) c.reception.receiver
  writes_good = writes_some (may_write c.state && is_none c.transmission.sender.stop) refl

-- it reads
count_within : (n m a : ℕ) → min n (min m a) ≤ m
count_within n m a = grind arith

reads_good : (g : Given) (c : Connection) (count : ℕ) → Streams g c.transmission.sender c.reception.receiver →
    Streams (record g { read = g.read ++ read_of count c }) c.transmission.sender (after_reading count c).reception.receiver
reads_good g c count h =
    let r = c.reception.receiver in
    let xs = readable c in
    let n = readable_count count c in
    let within = count_within count (length xs) (last_position - r.base) in
    subst (λ m. Streams (record g { read = g.read ++ take n xs }) c.transmission.sender (after_read m r)) (length-take-le n xs within)
    (got g c.transmission.sender r (take n xs) (drop n xs, take-append-drop n xs) h)

-- a segment arrives
sender_near : (e : Ends) (x y : Side) → Holds e x y → e.room ≤ 2 ^ 30 → (a : ℕ) →
    a ≤ expected y.connection.reception.receiver → x.connection.transmission.sender.una ≤ a + 2 ^ 31 →
    IsNear x.connection.transmission.sender.una a
sender_near e x y h small a known fresh =
    let s = x.connection.transmission.sender in
    let top = expected_top e.peers_size s y.connection.reception.receiver x.written y.read h.streams.there.receiver in
    let near = top_near s x.written h.streams.own.sender in
    let ring = h.streams.own.ring in
    record { not_old = fresh; not_new = omega (arith, known, top, near, ring, small) }

receiver_near : (e : Ends) (x y : Side) → Holds e x y → e.peers_room ≤ 2 ^ 30 → (q : ℕ) →
    q ≤ y.connection.transmission.sender.una + y.connection.transmission.sender.room + 1 →
    next x.connection.reception.receiver ≤ q + 2 ^ 31 → IsNear (next x.connection.reception.receiver) q
receiver_near e x y h small q near fresh =
    let r = x.connection.reception.receiver in
    let known = h.streams.here.acknowledged in
    let room = h.peer.room in
    let one = at_most_one (is_at r.stop (next r)) (next r) in
    record { not_old = fresh; not_new = omega (arith, near, known, room, one, small) }

module _ (e : Ends) (x y : Side) (h : Holds e x y) (small : e.room ≤ 2 ^ 30) (peers_small : e.peers_room ≤ 2 ^ 30)
    (default link now : ℕ) (keeps : Bool) (k : Sent) (options : Options) (may : MayArrive x.connection y.sent k) where
  abbrev g : Given
  g = given e x y

  abbrev c : Connection
  c = x.connection

  abbrev s : Segment
  s = arrived k.segment options

  sent : k.segment.rst ≡ false → SentStands e.j e.i y.connection.transmission.sender y.written y.connection.reception.receiver k
  sent no_reset = All-contains (SentStands e.j e.i y.connection.transmission.sender y.written y.connection.reception.receiver) y.sent k
      h.peer.sent (may.was_sent no_reset)

  plain : (kn : Knows g c) → IsLow c → IsPlain k.segment → Knows g (after_segment_arrives now keeps s c)
  plain kn low is =
      let st = (sent is.no_reset).plain is in
      gets_plain g now keeps k options c kn low st (receiver_near e x y h peers_small k.start st.near (may.fresh is))
      (sender_near e x y h small k.acknowledged st.known (may.fresh_acknowledgement is))

  arrives : (kn : Knows g c) → IsLow c → (syn rst : Bool) → k.segment.syn ≡ syn → k.segment.rst ≡ rst →
      Knows g (after_segment_arrives now keeps s c)
  arrives kn low syn true p q = gets_reset g now keeps s c kn low q
  arrives kn low true false p q = gets_syn g now keeps s c kn low p q
  arrives kn low false false p q = plain kn low (record { no_syn = p; no_reset = q })

  at : (kn : Knows g c) → IsLow c → Good g (after_segment_arrives now keeps s c)
  at kn low = inl (arrives kn low k.segment.syn k.segment.rst refl refl)

  up : (kn : Knows g c) → is_synchronized c.state ≡ true → Good g (after_segment_arrives now keeps s c)
  up kn e = at kn (λ _. kn.0.una e)

  in_state : (kn : Knows g c) (t : State) → c.state ≡ t → Good g (after_arrival_in t default link now keeps s c)
  in_state kn Closed e = inl kn
  in_state kn Listen e = inl kn
  in_state kn SynSent e = false_true (sym kn.0.asks ∙ ap is_syn_sent e)
  in_state kn SynReceived e = at kn (λ f. false_true (sym f ∙ ap is_opening e))
  in_state kn Established e = up kn (ap is_synchronized e)
  in_state kn FinWait1 e = up kn (ap is_synchronized e)
  in_state kn FinWait2 e = up kn (ap is_synchronized e)
  in_state kn CloseWait e = up kn (ap is_synchronized e)
  in_state kn Closing e = up kn (ap is_synchronized e)
  in_state kn LastAck e = up kn (ap is_synchronized e)
  in_state kn TimeWait e = up kn (ap is_synchronized e)

  gets_good : Good g c → Good g (after_arrival default link now keeps s c)
  gets_good (inl kn) = in_state kn c.state refl
  gets_good (inr (inl n)) =
      subst (λ t. Good g (after_arrival_in t default link now keeps s c)) (sym n.0.state) (gets_asking g default link now s c n (λ no_reset. (sent no_reset).syn))
  gets_good (inr (inr n)) = subst (λ t. Good g (after_arrival_in t default link now keeps s c)) (sym n.0.state) (inr (inr n))

-- whatever a side does
sent_side : (e : Ends) (x y : Side) (now : ℕ) → Holds e x y → x.is_begun ≡ true → (o : Option Action) →
    IsSent (given e x y) now x.connection o → Holds e (after_sending now o x) y
sent_side e x y now h begun None st = h
sent_side e x y now h begun (Some m) st = begun_side e x y (after_sending now (Some m) x) h begun st

written_good : (g : Given) (c : Connection) (octets : List ℕ) → Good g c →
    Good (record g { written = g.written ++ take (taken (length octets) c) octets }) (after_writing octets c)
written_good g c octets (inl h) = inl (h.0, writes_good g c octets h.1)
written_good g c octets (inr (inl h)) = inr (inl (h.0, writes_good g c octets h.1))
written_good g c octets (inr (inr h)) = inr (inr (h.0, writes_good g c octets h.1))

read_good : (g : Given) (c : Connection) (count : ℕ) → Good g c →
    Good (record g { read = g.read ++ read_of count c }) (after_reading count c)
read_good g c count (inl h) = inl (h.0, reads_good g c count h.1)
read_good g c count (inr (inl h)) = inr (inl (h.0, reads_good g c count h.1))
read_good g c count (inr (inr h)) = inr (inr (h.0, reads_good g c count h.1))

chosen_good : (g : Given) (c : Connection) (settings : Settings) → Good g c → Good g (record c { settings = settings })
chosen_good g c settings (inl h) = inl h
chosen_good g c settings (inr (inl h)) = inr (inl h)
chosen_good g c settings (inr (inr h)) = inr (inr h)

acts : (e : Ends) (act : Act) (x y : Side) → e.room ≤ 2 ^ 30 → e.peers_room ≤ 2 ^ 30 → MayAct act x y → Holds e x y →
    Holds e (after_act e.i act x) y
acts e (Opens now mss settings) x y small peers_small may h = begins_open e x y h may now mss settings
acts e (Accepts now default link settings k options) x y small peers_small may h =
    begins_accept e x y h may.0 now default link settings k options may.1 may.2
acts e (Writes octets) x y small peers_small may h =
    begun_side e x y (after_act e.i (Writes octets) x) h may (written_good (given e x y) x.connection octets (goods e x y h may))
acts e (Reads count) x y small peers_small may h =
    begun_side e x y (after_act e.i (Reads count) x) h may (read_good (given e x y) x.connection count (goods e x y h may))
acts e Closes x y small peers_small may h =
    begun_side e x y (after_act e.i Closes x) h may (closes_down (given e x y) x.connection (goods e x y h may))
acts e Aborts x y small peers_small may h =
    begun_side e x y (after_act e.i Aborts x) h may (aborts (given e x y) x.connection (goods e x y h may))
acts e (Chooses settings) x y small peers_small may h =
    begun_side e x y (after_act e.i (Chooses settings) x) h may (chosen_good (given e x y) x.connection settings (goods e x y h may))
acts e (Fits size) x y small peers_small may h =
    begun_side e x y (after_act e.i (Fits size) x) h may (told_shorter (given e x y) size x.connection (goods e x y h may))
acts e Fails x y small peers_small may h =
    begun_side e x y (after_act e.i Fails x) h may (fails (given e x y) x.connection (goods e x y h may))
acts e (Gets default link now keeps k options) x y small peers_small may h =
    begun_side e x y (after_act e.i (Gets default link now keeps k options) x) h may.0
    (gets_good e x y h small peers_small default link now keeps k options may.1 (goods e x y h may.0))
acts e (Expires now) x y small peers_small may h =
    begun_side e x y (after_act e.i (Expires now) x) h may (expires (given e x y) now x.connection (goods e x y h may))
acts e (Sends now) x y small peers_small may h =
    sent_side e x y now h may (action now x.connection) (sends_good (given e x y) now x.connection (goods e x y h may))

abbrev pub all : Ends → Pair → List Move → Pair
all e p ms = after_moves e.i e.j p ms

pub moves : (e : Ends) (ms : List Move) (p : Pair) → e.room ≤ 2 ^ 30 → e.peers_room ≤ 2 ^ 30 → AreMoves e.i e.j p ms → Holds e p.a p.b →
    Holds e (all e p ms).a (all e p ms).b
moves e [] p small peers_small run h = h
moves e (OfA act ∷ ms) p small peers_small run h =
    moves e ms (after_move e.i e.j (OfA act) p) small peers_small run.1 (acts e act p.a p.b small peers_small run.0 h)
moves e (OfB act ∷ ms) p small peers_small run h =
    moves e ms (after_move e.i e.j (OfB act) p) small peers_small run.1
    (turns (turned e) (after_act e.j act p.b) p.a (acts (turned e) act p.b p.a peers_small small run.0 (turns e p.a p.b h)))

-- at first
first_carries : (room size : ℕ) → Carries size (open_sender room 0) (open_receiver size) [] []
first_carries room size = record {
  receiver = record {
    places = length-replicate size None;
    cells = λ i x g. absurd (no_hole size i x g);
    held = λ i x g. absurd (no_hole size i x g);
    base = omega arith;
    read = refl;
    within = omega arith;
    base_top = omega arith;
    stop = λ e h. no_end e h;
  };
  acknowledged = omega (arith, next_expected (open_receiver size));
}

first_owns : (i j room size : ℕ) → Owns i j room (open_sender room 0) (open_receiver size) [] []
first_owns i j room size = record {
  sender = record {
    una = omega arith;
    ring = refl;
    una_top = omega arith;
    top_open = λ _. omega arith;
    top_stop = λ e h. no_end e h;
  };
  room = refl;
  ring = omega arith;
  sent = All-nil (SentStands i j (open_sender room 0) [] (open_receiver size));
}

first_phase : (i j room size : ℕ) (settings : Settings) → Phase i j room size (unopened room size settings)
first_phase i j room size settings = record {
  begun = λ f. false_true f;
  idle = λ _. record { sender = refl; receiver = refl; written = refl; sent = refl };
}

pub at_first : (e : Ends) (settings_a settings_b : Settings) →
    Holds e (unopened e.room e.size settings_a) (unopened e.peers_room e.peers_size settings_b)
at_first e settings_a settings_b = record {
  streams = record {
    own = first_owns e.i e.j e.room e.size;
    there = first_carries e.room e.peers_size;
    here = first_carries e.peers_room e.size;
  };
  peer = first_owns e.j e.i e.peers_room e.peers_size;
  mine = first_phase e.i e.j e.room e.size settings_a;
  peers = first_phase e.j e.i e.peers_room e.peers_size settings_b;
}

-- what stands says what the law says
zero_of : (n : ℕ) → (n == 0) ≡ true → n ≡ 0
zero_of n h = grind (arith, nat_tests)

shrinks : (n l m : ℕ) → min (suc n) (suc l) ≤ suc m → min n l ≤ m
shrinks n l m h = grind arith

beginnings : (w : List ℕ) (n m : ℕ) → min n (length w) ≤ m → IsBeginning (take n w) (take m w)
beginnings w zero m h = (take m w, refl)
beginnings [] (suc n) zero h = ([], refl)
beginnings [] (suc n) (suc m) h = ([], refl)
beginnings (x ∷ w) (suc n) zero h = absurd (grind arith)
beginnings (x ∷ w) (suc n) (suc m) h =
    let r = beginnings w n m (shrinks n (length w) m h) in
    (r.0, ap (λ v. x ∷ v) r.1)

min_first : (a b m : ℕ) → a ≤ m → min a b ≤ m
min_first a b m h = grind arith

min_second : (a b m : ℕ) → b ≤ m → min a b ≤ m
min_second a b m h = grind arith

-- what is acknowledged was in order
reached : (e : Ends) (x y : Side) → Holds e x y → (b : Bool) →
    is_at y.connection.reception.receiver.stop (next y.connection.reception.receiver) ≡ b →
    x.connection.transmission.sender.una ≤ next y.connection.reception.receiver + (if b then 1 else 0) →
    min (x.connection.transmission.sender.una - 1) (length x.written)
    ≤ y.connection.reception.receiver.base - 1 + length (readable y.connection)
reached e x y h true f known =
    let r = y.connection.reception.receiver in
    let t = h.streams.there.receiver in
    let stop = is_at_some r.stop (next r) f in
    let q = (h.streams.own.sender.top_stop (next r) (t.stop (next r) stop).0).0 in
    let b = t.base in
    let l : length x.written ≤ r.base - 1 + length (readable y.connection) = omega (arith, q, b) in
    min_second (x.connection.transmission.sender.una - 1) (length x.written) _ l
reached e x y h false f known =
    let r = y.connection.reception.receiver in
    let b = h.streams.there.receiver.base in
    let l : x.connection.transmission.sender.una - 1 ≤ r.base - 1 + length (readable y.connection) = omega (arith, known, b) in
    min_first (x.connection.transmission.sender.una - 1) (length x.written) _ l

law : (e : Ends) (x y : Side) → Holds e x y → StreamHolds x y
law e x y h =
    let s = x.connection.transmission.sender in
    let r = y.connection.reception.receiver in
    let w = x.written in
    let t = h.streams.there.receiver in
    let o = h.streams.own.sender in
    let xs = readable y.connection in
    let whole : IsBeginning xs (in_order r.cells) = ([], append_none xs) in
    let f = append_taken (r.base - 1) w xs (omega (arith, t.base, t.within)) (read_octets e.peers_size s r w y.read xs whole t) in
    let here : y.read ++ xs ≡ take (r.base - 1 + length xs) w = ap (λ v. v ++ xs) t.read ∙ f.0 in
    let far = f.1 in
    let known = h.streams.there.acknowledged in
    let n = at_most_one (is_at r.stop (next r)) (next r) in record {
      prefix = (
        drop (r.base - 1 + length xs) w,
        ap (λ v. v ++ drop (r.base - 1 + length xs) w) here ∙ take-append-drop (r.base - 1 + length xs) w,
      );
      finished = λ told.
          let stop = is_at_some r.stop (next r) (first_of_two (is_at r.stop (next r)) (length xs == 0) told) in
          let none = zero_of (length xs) (last_of (is_at r.stop (next r)) (length xs == 0) told) in
          let q = (o.top_stop (next r) (t.stop (next r) stop).0).0 in
          t.read ∙ take_all (r.base - 1) w (omega (arith, none, q));
      acknowledged = (
        take (s.una - 1) w,
        ap (λ v. take (s.una - 1) w ++ v) o.ring ∙ take-append-drop (s.una - 1) w,
        subst (λ v. IsBeginning (take (s.una - 1) w) v) (sym here)
            (beginnings w (s.una - 1) (r.base - 1 + length xs) (reached e x y h (is_at r.stop (next r)) refl known)),
      );
    }

pub machines_keep : MachinesKeep
machines_keep i j room_a size_a room_b size_b settings_a settings_b ms small_a small_b run =
    let e : Ends = record { i = i; j = j; room = room_a; size = size_a; peers_room = room_b; peers_size = size_b } in
    let start : Pair = record { a = unopened room_a size_a settings_a; b = unopened room_b size_b settings_b } in
    let h = moves e ms start small_a small_b run (at_first e settings_a settings_b) in
    (law e (all e start ms).a (all e start ms).b h, law (turned e) (all e start ms).b (all e start ms).a (turns e (all e start ms).a (all e start ms).b h))
