-- An answer isn't answered, and a SYN that acknowledges something brings no SYN.
use Rattle.std.proofs.Common.{◌≡◌, ◌<◌, ◌≤◌, ◌+◌, ◌-◌, ◌*◌, ◌%◌, ◌^◌, ℕ, Bool, true, false, List, [], length}
use Rattle.std.proofs.Common.{refl, sym, ap, ◌∙◌, arith, Option, Some, None}
use Rattle.std.specs.Prelude.{nat_le, nat_lt, ◌==◌, ◌&&◌, ◌||◌, not, is_some, is_none, if◌then◌else◌}
use Rattle.std.specs.Option.{option_map, option_and_then}
use Rattle.std.proofs.lemmas.Bool.Decides.{nat_tests}
use Rattle.tcp_machine.specs.declared.state.State.{State}
use Rattle.tcp_machine.specs.declared.state.State.TheVariants.{Closed, Listen, SynSent, SynReceived, Established, FinWait1}
use Rattle.tcp_machine.specs.declared.state.State.TheVariants.{FinWait2, CloseWait, Closing, LastAck, TimeWait}
use Rattle.tcp_machine.specs.declared.timers.Pending.{Pending}
use Rattle.tcp_machine.specs.declared.timers.Pending.TheVariants.{Empty, Challenge, SynAgain, Resend, Probe, KeepAlive, Reset}
use Rattle.tcp_machine.specs.declared.timers.Owed.TheVariants.{AtOnce}
use Rattle.tcp_machine.specs.declared.timers.Ending.{Ending}
use Rattle.tcp_machine.specs.declared.timers.Ending.TheVariants.{Refused}
use Rattle.tcp_machine.specs.Positions.{number_at, ahead, position_near}
use Rattle.tcp_machine.specs.Pieces.{Piece}
use Rattle.tcp_machine.specs.Sending.{after_position}
use Rattle.tcp_machine.specs.Receiving.{next, expected, is_at, is_acceptable, is_in_window}
use Rattle.tcp_machine.specs.States.{is_opening, is_synchronized, sends_octets, takes_octets, after_peers_end, after_end_acknowledged}
use Rattle.tcp_machine.specs.Connection.{Connection, Transmission}
use Rattle.tcp_machine.specs.Segments.{Segment, Options, window_in, acceptable_piece, acknowledged_in}
use Rattle.tcp_machine.specs.Windows.{after_window}
use Rattle.tcp_machine.specs.Congestion as congestion
use Rattle.tcp_machine.specs.Acknowledgements.{rank, with_pending, empty_position, is_believed, is_end_acknowledged, is_duplicate, with_waiting, flight}
use Rattle.tcp_machine.specs.Acknowledgements.{after_progress, after_duplicate, after_acked, after_told, after_blocks, after_end, after_acknowledgement, shows_next_loss}
use Rattle.tcp_machine.specs.Arrivals.{is_time_wait, is_syn_received, is_closed, with_owed, ended, with_time_wait, after_entering}
use Rattle.tcp_machine.specs.Arrivals.{is_before, is_of_sent, asks, is_answered, after_unbelieved, established}
use Rattle.tcp_machine.specs.Arrivals.{is_own_syn_acknowledged, is_syn_again, after_syn_once_more, reception_after, has_text}
use Rattle.tcp_machine.specs.Arrivals.{after_octets_of, has_ended, after_fin, after_text, after_last, after_position_acknowledged}
use Rattle.tcp_machine.specs.Arrivals.{why_reset, after_reset, after_ack_field, heard, after_piece_of, after_segment_arrives}
use Rattle.tcp_machine.specs.Opening.{with_syn, is_acknowledgement_of_syn, after_wrong_ack, after_syn, after_arrival_in_syn_sent, after_arrival_in}
use Rattle.tcp_machine.specs.Opening.{after_arrival}
use Rattle.tcp_machine.specs.Outgoing.{SendSyn, SendNext, SendProbe, next_piece, first_piece, has_octets, is_worth_sending, ack_if, tells_something, is_owed}
use Rattle.tcp_machine.specs.Outgoing.{action_pending, is_reset, is_repeated_syn, is_challenge, is_syn_due, is_syn_sent, action_in_opening, action}
use Rattle.tcp_machine.proofs.PositionsLemmas.{position_right}
use Rattle.tcp_laws.specs.Answers.{answer_of, AnswersEnd, NoSynAnswersASynAck, NothingAnswersAReset}
use Rattle.tcp_laws.proofs.ReceivingSteps.{false_true, first_of_two, next_expected, at_most_one}
use Rattle.tcp_laws.proofs.MachineArrivals.{either, last_of, handshake_opening}

-- where nothing is owed as an answer, an acknowledgement that is read owes none
abbrev Calm : Connection → Type 0
Calm d = d.pending ≡ Challenge → ⊥

loss : (b : Bool) (q : Pending) → (q ≡ Challenge → ⊥) → (if b then Resend else q) ≡ Challenge → ⊥
loss true q h e = cc
loss false q h e = h e

calm_ended : (why : Option Ending) (d : Connection) → Calm (ended why d)
calm_ended why d e = cc

module _ (now a : ℕ) (s : Segment) (p : Piece) where
  calm_acked : (d : Connection) → Calm d → Calm (after_acked now a s p d)
  calm_acked d h =
      let t = d.transmission in
      let window = window_in d s in
      either Calm (nat_lt t.sender.una a) (after_progress now a window d) (after_duplicate a window p d)
      (λ _. loss (shows_next_loss a d) d.pending h) (λ _.
      either Calm (not d.reception.sack_permitted && is_duplicate a window p t) (record d {
        congestion = congestion.after_duplicate t.mss a (flight t) t.sender.top d.congestion;
        pending = if congestion.is_third a d.congestion then Resend else d.pending;
      }) (record d { transmission = record t { sender = after_position a window t.sender } })
      (λ _. loss (congestion.is_third a d.congestion) d.pending h) (λ _. h))

  calm_told : (c d : Connection) → Calm d → Calm (after_told a s p c d)
  calm_told c d h =
      either Calm (nat_le c.transmission.sender.una a)
      (record d { transmission = after_window p.start a (window_in c s) d.transmission }) d (λ _. h) (λ _. h)

  calm_end : (d : Connection) → Calm d → Calm (after_end d)
  calm_end d h =
      either Calm (is_end_acknowledged d.transmission.sender) (record d { state = after_end_acknowledged d.state }) d (λ _. h) (λ _. h)

  calm_acknowledgement : (d : Connection) → Calm d → Calm (after_acknowledgement now a s p d)
  calm_acknowledgement d h =
      let e = after_told a s p d (after_acked now a s p d) in
      calm_end (with_waiting now d.transmission (after_blocks s e)) (loss _ e.pending (calm_told d (after_acked now a s p d) (calm_acked d h)))

calm_entering : (now : ℕ) (before : State) (d : Connection) → Calm d → Calm (after_entering now before d)
calm_entering now before d h =
    either Calm (is_time_wait d.state && not (is_time_wait before)) (with_time_wait now d) d (λ _. h) (λ _. h)

calm_last : (d : Connection) → Calm d → Calm (after_last d)
calm_last d h = either Calm (is_closed d.state) (ended None d) d (λ _. calm_ended None d) (λ _. h)

module _ (now : ℕ) (keeps : Bool) (s : Segment) (p : Piece) (empty : has_text p ≡ false) where
  calm_octets : (d : Connection) → Calm d → Calm (after_octets_of now keeps p d)
  calm_octets d h =
      either Calm (not (takes_octets d.state && has_text p)) d
      (if keeps then record d { reception = reception_after now d.settings p d.reception } else with_owed AtOnce d) (λ _. h) (λ _.
      either Calm keeps (record d { reception = reception_after now d.settings p d.reception }) (with_owed AtOnce d) (λ _. h) (λ _. h))

  calm_fin : (d : Connection) → Calm d → Calm (after_fin now d)
  calm_fin d h =
      let e : Connection = record (with_owed AtOnce d) { state = after_peers_end d.state } in
      either Calm (takes_octets d.state && has_ended d.reception.receiver) (after_entering now d.state e) d
      (λ _. calm_entering now d.state e h) (λ _. h)

  calm_unbelieved : (d : Connection) → Calm d → Calm (after_unbelieved p d)
  calm_unbelieved d h = either Calm (has_text p) (with_pending Challenge d) d (λ e. false_true (sym empty ∙ e)) (λ _. h)

  calm_position : (o : Option ℕ) (d : Connection) → Calm d → Calm (after_position_acknowledged now keeps o s p d)
  calm_position None d h = calm_unbelieved d h
  calm_position (Some a) d h =
      let e = after_entering now d.state (after_acknowledgement now a s p d) in
      either Calm (is_believed a d.transmission) (after_text now keeps p (after_last e)) (after_unbelieved p d)
      (λ _. calm_fin (after_octets_of now keeps p (after_last e)) (calm_octets (after_last e)
      (calm_last e (calm_entering now d.state (after_acknowledgement now a s p d) (calm_acknowledgement now a s p d h)))))
      (λ _. calm_unbelieved d h)

  calm_reset : (n : ℕ) (d : Connection) → Calm d → Calm (with_pending (Reset n) d)
  calm_reset n d h = either Calm (nat_lt (rank d.pending) (rank (Reset n))) (record d { pending = Reset n }) d (λ _. λ e. cc) (λ _. h)

  calm_field : (o : Option ℕ) (d : Connection) → Calm d → Calm (after_ack_field now keeps o s p d)
  calm_field None d h = h
  calm_field (Some n) d h =
      either Calm (not (is_syn_received d.state)) (after_position_acknowledged now keeps (acknowledged_in d n) s p d)
      (if n == number_at d.local 1 then after_position_acknowledged now keeps (Some 1) s p (established d) else with_pending (Reset n) d)
      (λ _. calm_position (acknowledged_in d n) d h) (λ _.
      either Calm (n == number_at d.local 1) (after_position_acknowledged now keeps (Some 1) s p (established d))
      (with_pending (Reset n) d) (λ _. calm_position (Some 1) (established d) h) (λ _. calm_reset n d h))

-- so an empty segment is answered only where it asks
pub record IsAsked (s : Segment) (c d : Connection) : Type 0 where
  pub asked : asks s c ≡ true
  pub is : d ≡ with_pending Challenge c

neither : (a b : Bool) → a || not b ≡ false → b ≡ true
neither true b e = false_true (sym e)
neither false true e = refl
neither false false e = false_true (sym e)

without : (a b : Bool) → a ≡ false → a && b ≡ true → ⊥
without true b e f = false_true (sym e)
without false b e f = false_true f

module _ (now : ℕ) (keeps : Bool) (s : Segment) (c : Connection) (syn : s.syn ≡ false) (rst : s.rst ≡ false) (fin : s.fin ≡ false)
    (octets : s.octets ≡ []) (empty : c.pending ≡ Empty) where
  abbrev Asked : Connection → Type 0
  Asked d = d.pending ≡ Challenge → IsAsked s c d

  abbrev piece_at : ℕ → Piece
  piece_at q = record { start = q; octets = s.octets; ends = s.fin }

  no_text : (q : ℕ) → has_text (piece_at q) ≡ false
  no_text q = ap (λ (os : List ℕ). nat_lt 0 (length os) || s.fin) octets ∙ fin

  calm : (d : Connection) → d.pending ≡ c.pending → Calm d
  calm d same e = empty_challenge (sym empty ∙ sym same ∙ e) where
    empty_challenge : Empty ≡ Challenge → ⊥
    empty_challenge e = cc

  asked_by : is_answered s c ≡ true → asks s c ≡ true
  asked_by e =
      sym (ap (λ (os : List ℕ). nat_lt 0 (length os) || s.fin || asks s c) octets ∙ ap (λ b. b || asks s c) fin) ∙ e

  refused : Asked (after_piece_of now keeps None s c)
  refused =
      either Asked (s.rst || not (is_answered s c)) c
      (if s.fin && is_time_wait c.state then with_time_wait now (with_pending Challenge c) else with_pending Challenge c)
      (λ _. λ e. absurd (calm c refl e)) (λ f.
      either Asked (s.fin && is_time_wait c.state) (with_time_wait now (with_pending Challenge c)) (with_pending Challenge c)
      (λ t. absurd (without s.fin (is_time_wait c.state) fin t))
      (λ _. λ _. record { asked = asked_by (neither s.rst (is_answered s c) f); is = refl }))

  read : (q : ℕ) → Asked (after_piece_of now keeps (Some (piece_at q)) s c)
  read q =
      either Asked s.rst (after_reset (piece_at q) c) (after_ack_field now keeps s.ack s (piece_at q) (heard now c))
      (λ e. false_true (sym rst ∙ e)) (λ _. λ e.
      absurd (calm_field now keeps s (piece_at q) (no_text q) s.ack (heard now c) (calm (heard now c) refl) e))

  by_position : (o : Option ℕ) → Asked (after_piece_of now keeps
      (option_and_then (λ (p : Piece). if is_acceptable c.reception.receiver p then Some p else None) (option_map (λ p. piece_at p) o)) s c)
  by_position None = refused
  by_position (Some q) = by (is_acceptable c.reception.receiver (piece_at q)) where
    by : (b : Bool) → Asked (after_piece_of now keeps (if b then Some (piece_at q) else None) s c)
    by true = read q
    by false = refused

  pub only_asked : Asked (after_segment_arrives now keeps s c)
  only_asked =
      either Asked (s.syn && not s.rst) (after_syn_once_more s c) (after_piece_of now keeps (acceptable_piece c s) s c)
      (λ e. absurd (without s.syn (not s.rst) syn e)) (λ _. by_position (position_near c.remote (next c.reception.receiver) s.number))

-- the number of a position that was read
number_of : (i e n p : ℕ) → n < 2 ^ 32 → position_near i e n ≡ Some p → (i + p) % 2 ^ 32 ≡ n
number_of i e n p small h = by (nat_lt (ahead i e n) (2 ^ 31)) refl where
  some : (a b : ℕ) → Some a ≡ Some b → a ≡ b
  some a b e = cc

  ahead_on : (p : ℕ) → e + ahead i e n ≡ p → (i + p) % 2 ^ 32 ≡ n
  ahead_on p k = omega (arith, small, k)

  ahead_back : (p : ℕ) → 2 ^ 32 ≤ e + ahead i e n → e + ahead i e n - 2 ^ 32 ≡ p → (i + p) % 2 ^ 32 ≡ n
  ahead_back p l k = omega (arith, small, l, k)

  back : (b : Bool) → nat_le (2 ^ 32) (e + ahead i e n) ≡ b → (if b then Some (e + ahead i e n - 2 ^ 32) else None) ≡ Some p →
      (i + p) % 2 ^ 32 ≡ n
  back true t k = ahead_back p (grind (arith, nat_tests)) (some (e + ahead i e n - 2 ^ 32) p k)
  back false t k = cc

  by : (b : Bool) → nat_lt (ahead i e n) (2 ^ 31) ≡ b → (i + p) % 2 ^ 32 ≡ n
  by true t = ahead_on p (some (e + ahead i e n) p (sym (rw t refl) ∙ h))
  by false t =
      back (nat_le (2 ^ 32) (e + ahead i e n)) refl
      (sym (ap (λ (b : Bool). if b then Some (e + ahead i e n) else (if nat_le (2 ^ 32) (e + ahead i e n) then Some (e + ahead i e n - 2 ^ 32) else None)) t) ∙ h)

-- a number on the wire that stands x positions before one
record IsBehind (i e n x : ℕ) : Type 0 where
  low : 1 ≤ x
  high : x ≤ 2 ^ 31 + 1
  number : (i + (e + 2 ^ 32 - x)) % 2 ^ 32 ≡ n

behind : (i e x n : ℕ) → n < 2 ^ 32 → e ≤ x → x ≤ e + 1 → is_before (position_near i e n) x ≡ true → (y : ℕ) × IsBehind i x n y
behind i e x n small low high h = by (nat_lt (ahead i e n) (2 ^ 31)) refl where
  near : e + ahead i e n < x → (y : ℕ) × IsBehind i x n y
  near l = (
    x - (e + ahead i e n),
    record { low = omega (arith, l); high = omega (arith, l, high); number = omega (arith, small, l) },
  )

  far : 2 ^ 31 ≤ ahead i e n → (y : ℕ) × IsBehind i x n y
  far l = (
    x + 2 ^ 32 - (e + ahead i e n),
    record { low = omega (arith, small, low); high = omega (arith, l, high); number = omega (arith, small, low, high, l) },
  )

  by : (b : Bool) → nat_lt (ahead i e n) (2 ^ 31) ≡ b → (y : ℕ) × IsBehind i x n y
  by true t =
      let k : nat_lt (e + ahead i e n) x ≡ true =
      sym (ap (λ (b : Bool). is_before (if b then Some (e + ahead i e n)
      else (if nat_le (2 ^ 32) (e + ahead i e n) then Some (e + ahead i e n - 2 ^ 32) else None)) x) t) ∙ h in
      near (grind (arith, nat_tests))
  by false t = far (grind (arith, nat_tests))

-- what acknowledges something that was sent
record IsOfSent (o : Option ℕ) (t : Transmission) : Type 0 where
  position : ℕ
  is : o ≡ Some position
  low : t.sender.una ≤ position + t.largest_window
  high : position ≤ empty_position t

of_sent : (o : Option ℕ) (t : Transmission) → is_of_sent o t ≡ true → IsOfSent o t
of_sent None t h = false_true h
of_sent (Some a) t h =
    let believed = first_of_two (is_believed a t) (nat_le a (empty_position t)) h in
    let l : nat_le t.sender.una (a + t.largest_window) ≡ true =
    first_of_two (nat_le t.sender.una (a + t.largest_window)) (nat_le a t.sender.top) believed in
    let k : nat_le a (empty_position t) ≡ true = last_of (is_believed a t) (nat_le a (empty_position t)) h in record {
      position = a;
      is = refl;
      low = grind (arith, nat_tests);
      high = grind (arith, nat_tests);
    }

-- of two sides, not both are behind what the other one expects, where each has sent what the other acknowledges
apart : (mine theirs una expects ends position largest x : ℕ) → largest ≤ 65535 * 2 ^ 14 → ends ≤ una + 2 ^ 30 + 1 →
    una ≤ position + largest → position ≤ ends → (mine + position) % 2 ^ 32 ≡ (theirs + expects) % 2 ^ 32 →
    1 ≤ x → x ≤ 2 ^ 31 + 1 → (theirs + (expects + 2 ^ 32 - x)) % 2 ^ 32 ≡ (mine + ends) % 2 ^ 32 → ⊥
apart mine theirs una expects ends position largest x a b c d e f g h = omega (arith, a, b, c, d, e, f, g, h)

same_answer : (b : Bool) (p : Options) (c d : Connection) →
    asks (answer_of (if b then record d { pending = Challenge } else d) p) c ≡ asks (answer_of d p) c
same_answer true p c d = refl
same_answer false p c d = refl

on_the_wire : (i p : ℕ) → number_at i p < 2 ^ 32
on_the_wire i p = omega arith

pub answers_end : AnswersEnd
answers_end now t keeps kept o p c d bounded one two =
    let e = after_segment_arrives now keeps (answer_of c o) d in
    let first : IsAsked (answer_of c o) d e = only_asked now keeps (answer_of c o) d refl refl refl refl one.none one.one in
    let second = only_asked t kept (answer_of e p) c refl refl refl refl two.none two.one in
    let asked : asks (answer_of d p) c ≡ true =
    sym (same_answer (nat_lt (rank d.pending) (rank Challenge)) p c d)
    ∙ sym (ap (λ (x : Connection). asks (answer_of x p) c) first.is) ∙ second.asked in
    let r = c.reception.receiver in
    let n = number_at d.local (empty_position d.transmission) in
    let before : is_before (position_near c.remote (next r) n) (expected r) ≡ true =
    first_of_two (is_before (position_near c.remote (next r) n) (expected r))
    (is_of_sent (acknowledged_in c (number_at d.remote (expected d.reception.receiver))) c.transmission) asked in
    let y = behind c.remote (next r) (expected r) n (on_the_wire d.local (empty_position d.transmission)) (next_expected r)
    (at_most_one (is_at r.stop (next r)) (next r)) before in
    let m = number_at c.remote (expected r) in
    let own = d.reception.receiver in
    let sent = of_sent (acknowledged_in d m) d.transmission
    (last_of (is_before (position_near d.remote (next own) (number_at c.local (empty_position c.transmission))) (expected own))
    (is_of_sent (acknowledged_in d m) d.transmission) first.asked) in
    apart d.local c.remote d.transmission.sender.una (expected r) (empty_position d.transmission) sent.position
    d.transmission.largest_window y.0 bounded.window bounded.sent sent.low sent.high
    (number_of d.local d.transmission.sender.una m sent.position (on_the_wire c.remote (expected r)) sent.is)
    y.1.low y.1.high y.1.number

-- a SYN is sent only where it is due, before the own one is acknowledged
abbrev IsMute : ℕ → Connection → Type 0
IsMute t d = is_opening d.state ≡ true → is_syn_due t d ≡ false

ack_or_none : (b : Bool) → ack_if b ≡ Some SendSyn → ⊥
ack_or_none true e = cc
ack_or_none false e = cc

next_or_ack : (a b : Bool) (p : Piece) → (if a then Some (SendNext p) else ack_if b) ≡ Some SendSyn → ⊥
next_or_ack true b p e = cc
next_or_ack false b p e = ack_or_none b e

next_or_probe : (a : Bool) (p q : Piece) → (if a then Some (SendNext p) else Some (SendProbe q)) ≡ Some SendSyn → ⊥
next_or_probe true p q e = cc
next_or_probe false p q e = cc

pending_no_syn : (p : Pending) (t : ℕ) (d : Connection) → action_pending p t d ≡ Some SendSyn → ⊥
pending_no_syn Empty t d e =
    next_or_ack (sends_octets d.state && is_worth_sending d (next_piece d)) (is_synchronized d.state && tells_something t d) (next_piece d) e
pending_no_syn Challenge t d e = ack_or_none (is_synchronized d.state) e
pending_no_syn SynAgain t d e = ack_or_none (is_synchronized d.state) e
pending_no_syn KeepAlive t d e = cc
pending_no_syn Probe t d e = next_or_probe (sends_octets d.state && has_octets (next_piece d)) (next_piece d) (first_piece 1 d) e
pending_no_syn Resend t d e = cc
pending_no_syn (Reset number) t d e = cc

mute_sends : (t : ℕ) (d : Connection) → IsMute t d → action t d ≡ Some SendSyn → ⊥
mute_sends t d h e = by (is_opening d.state && not (is_reset d.pending)) refl where
  opening : is_opening d.state ≡ true → action_in_opening t d ≡ Some SendSyn → ⊥
  opening o f =
      ack_or_none (is_challenge d.pending && not (is_syn_sent d.state))
      (sym (ap (λ (b : Bool). if b then Some SendSyn else ack_if (is_challenge d.pending && not (is_syn_sent d.state))) (h o)) ∙ f)

  by : (b : Bool) → is_opening d.state && not (is_reset d.pending) ≡ b → ⊥
  by true f =
      opening (first_of_two (is_opening d.state) (not (is_reset d.pending)) f)
      (sym (ap (λ (b : Bool). if b then action_in_opening t d else action_pending d.pending t d) f) ∙ e)
  by false f =
      pending_no_syn d.pending t d (sym (ap (λ (b : Bool). if b then action_in_opening t d else action_pending d.pending t d) f) ∙ e)

other_pending : (a b x : Bool) → a || b || x ≡ false → a || b || false ≡ false
other_pending true b x e = e
other_pending false true x e = e
other_pending false false x e = refl

module _ (default link now t number : ℕ) (keeps : Bool) (s : Segment) (c : Connection) (syn : s.syn ≡ true) (ack : s.ack ≡ Some number)
    (due : is_syn_due t c ≡ false) where
  abbrev Mute : Connection → Type 0
  Mute = IsMute t

  mute_same : Mute c
  mute_same o = due

  mute_other : (p : Pending) → is_repeated_syn p ≡ false → Mute (with_pending p c)
  mute_other p f =
      either Mute (nat_lt (rank c.pending) (rank p)) (record c { pending = p }) c (λ _. λ o.
      ap (λ (b : Bool). (c.transmission.nxt == 0) || is_owed c.reception.owed t || b) f
      ∙ other_pending (c.transmission.nxt == 0) (is_owed c.reception.owed t) (is_repeated_syn c.pending) due) (λ _. mute_same)

  mute_established : (d : Connection) → Mute (with_owed AtOnce (established d))
  mute_established d o = false_true (sym (handshake_opening d.transmission.sender.stop) ∙ o)

  mute_ended : (why : Option Ending) → Mute (ended why c)
  mute_ended why o = false_true o

  some_ack : is_none s.ack ≡ true → ⊥
  some_ack e = false_true (sym (ap (λ (o : Option ℕ). is_none o) ack) ∙ e)

  no_ack : is_some s.ack ≡ false → ⊥
  no_ack e = false_true (sym e ∙ ap (λ (o : Option ℕ). is_some o) ack)

  mute_wrong : (o : Option ℕ) → Mute (after_wrong_ack o s c)
  mute_wrong None = mute_same
  mute_wrong (Some n) = either Mute s.rst c (with_pending (Reset n) c) (λ _. mute_same) (λ _. mute_other (Reset n) refl)

  mute_asking : Mute (after_arrival_in_syn_sent default link now s c)
  mute_asking =
      either Mute (is_acknowledgement_of_syn s c)
      (if s.rst then ended (Some Refused) c else if s.syn then after_syn default link now true s c else c)
      (if is_some s.ack then after_wrong_ack s.ack s c else if s.syn && not s.rst then after_syn default link now false s c else c) (λ _.
      either Mute s.rst (ended (Some Refused) c) (if s.syn then after_syn default link now true s c else c)
      (λ _. mute_ended (Some Refused)) (λ _.
      either Mute s.syn (after_syn default link now true s c) c
      (λ _. mute_established (with_syn default link s (heard now c))) (λ _. mute_same))) (λ _.
      either Mute (is_some s.ack) (after_wrong_ack s.ack s c)
      (if s.syn && not s.rst then after_syn default link now false s c else c) (λ _. mute_wrong s.ack) (λ e. absurd (no_ack e)))

  again : (a b : Bool) → a && is_none s.ack && b ≡ true → ⊥
  again a b e = some_ack (last_of a (is_none s.ack) (first_of_two (a && is_none s.ack) b e))

  mute_once_more : Mute (after_syn_once_more s c)
  mute_once_more =
      either Mute (is_own_syn_acknowledged s c) (with_owed AtOnce (established c))
      (if is_syn_again s c then with_pending SynAgain c else with_pending Challenge c) (λ _. mute_established c) (λ _.
      either Mute (is_syn_again s c) (with_pending SynAgain c) (with_pending Challenge c)
      (λ e. absurd (again (s.number == c.remote) (is_syn_received c.state) e)) (λ _. mute_other Challenge refl))

  reset_too : (a b : Bool) → a ≡ true → a && not b ≡ false → b ≡ true
  reset_too true true e f = refl
  reset_too true false e f = false_true (sym f)
  reset_too false b e f = false_true e

  mute_piece : s.rst ≡ true → (o : Option Piece) → Mute (after_piece_of now keeps o s c)
  mute_piece rst None =
      either Mute (s.rst || not (is_answered s c)) c
      (if s.fin && is_time_wait c.state then with_time_wait now (with_pending Challenge c) else with_pending Challenge c)
      (λ _. mute_same) (λ e. false_true (sym e ∙ ap (λ (b : Bool). b || not (is_answered s c)) rst))
  mute_piece rst (Some p) =
      either Mute s.rst (after_reset p c) (after_ack_field now keeps s.ack s p (heard now c)) (λ _.
      either Mute (is_time_wait c.state) c
      (if p.start == expected c.reception.receiver then ended (Some (why_reset c)) c
      else if is_in_window c.reception.receiver p.start then with_pending Challenge c else c) (λ _. mute_same) (λ _.
      either Mute (p.start == expected c.reception.receiver) (ended (Some (why_reset c)) c)
      (if is_in_window c.reception.receiver p.start then with_pending Challenge c else c) (λ _. mute_ended (Some (why_reset c))) (λ _.
      either Mute (is_in_window c.reception.receiver p.start) (with_pending Challenge c) c (λ _. mute_other Challenge refl)
      (λ _. mute_same)))) (λ e. false_true (sym e ∙ rst))

  mute_arrival : Mute (after_segment_arrives now keeps s c)
  mute_arrival =
      either Mute (s.syn && not s.rst) (after_syn_once_more s c) (after_piece_of now keeps (acceptable_piece c s) s c)
      (λ _. mute_once_more) (λ e. mute_piece (reset_too s.syn s.rst syn e) (acceptable_piece c s))

  mute_in : (st : State) → Mute (after_arrival_in st default link now keeps s c)
  mute_in Closed = mute_same
  mute_in Listen = mute_same
  mute_in SynSent = mute_asking
  mute_in SynReceived = mute_arrival
  mute_in Established = mute_arrival
  mute_in FinWait1 = mute_arrival
  mute_in FinWait2 = mute_arrival
  mute_in CloseWait = mute_arrival
  mute_in Closing = mute_arrival
  mute_in LastAck = mute_arrival
  mute_in TimeWait = mute_arrival

pub no_syn_answers_a_syn_ack : NoSynAnswersASynAck
no_syn_answers_a_syn_ack default link now t number keeps s c syn ack due e =
    mute_sends t (after_arrival default link now keeps s c) (mute_in default link now t number keeps s c syn ack due c.state) e

-- a reset of the number that was acknowledged
equal : (n : ℕ) → (n == n) ≡ true
equal n = grind (arith, nat_tests)

module _ (now : ℕ) (keeps : Bool) (s : Segment) (c : Connection) (rst : s.rst ≡ true) (empty : c.pending ≡ Empty) where
  abbrev Silent : Connection → Type 0
  Silent d = d.pending ≡ Empty

  left_alone : Silent (after_piece_of now keeps None s c)
  left_alone =
      either Silent (s.rst || not (is_answered s c)) c
      (if s.fin && is_time_wait c.state then with_time_wait now (with_pending Challenge c) else with_pending Challenge c)
      (λ _. empty) (λ e. false_true (sym e ∙ ap (λ (b : Bool). b || not (is_answered s c)) rst))

  ended_by : (p : Piece) → p.start ≡ expected c.reception.receiver → Silent (after_piece_of now keeps (Some p) s c)
  ended_by p at =
      either Silent s.rst (after_reset p c) (after_ack_field now keeps s.ack s p (heard now c)) (λ _.
      either Silent (is_time_wait c.state) c
      (if p.start == expected c.reception.receiver then ended (Some (why_reset c)) c
      else if is_in_window c.reception.receiver p.start then with_pending Challenge c else c) (λ _. empty) (λ _.
      either Silent (p.start == expected c.reception.receiver) (ended (Some (why_reset c)) c)
      (if is_in_window c.reception.receiver p.start then with_pending Challenge c else c) (λ _. refl) (λ e.
      false_true (sym e ∙ ap (λ (n : ℕ). n == expected c.reception.receiver) at ∙ equal (expected c.reception.receiver)))))
      (λ e. false_true (sym e ∙ rst))

  by_start : (o : Option ℕ) → o ≡ Some (expected c.reception.receiver) → Silent (after_piece_of now keeps (option_and_then
      (λ (p : Piece). if is_acceptable c.reception.receiver p then Some p else None)
      (option_map (λ p. record { start = p; octets = s.octets; ends = s.fin }) o)) s c)
  by_start None e = cc
  by_start (Some q) e = by (is_acceptable c.reception.receiver piece) where
    piece : Piece
    piece = record { start = q; octets = s.octets; ends = s.fin }

    at : (a b : ℕ) → Some a ≡ Some b → a ≡ b
    at a b e = cc

    by : (b : Bool) → Silent (after_piece_of now keeps (if b then Some piece else None) s c)
    by true = ended_by piece (at q (expected c.reception.receiver) e)
    by false = left_alone

pub nothing_answers_a_reset : NothingAnswersAReset
nothing_answers_a_reset now keeps s c rst number empty =
    let r = c.reception.receiver in
    let low = next_expected r in
    let high : expected r ≤ next r + 1 = at_most_one (is_at r.stop (next r)) (next r) in
    let read : position_near c.remote (next r) s.number ≡ Some (expected r) =
    ap (λ (n : ℕ). position_near c.remote (next r) n) number
    ∙ position_right c.remote (next r) (expected r) (record { not_old = omega (arith, low); not_new = omega (arith, high) }) in
    either (Silent now keeps s c rst empty) (s.syn && not s.rst) (after_syn_once_more s c) (after_piece_of now keeps (acceptable_piece c s) s c)
    (λ e. absurd (no_syn s.syn s.rst rst e)) (λ _. by_start now keeps s c rst empty (position_near c.remote (next r) s.number) read) where
      no_syn : (a b : Bool) → b ≡ true → a && not b ≡ true → ⊥
      no_syn true true e f = false_true f
      no_syn true false e f = false_true e
      no_syn false b e f = false_true f
