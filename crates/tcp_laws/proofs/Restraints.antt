-- Segments that change nothing, and connections that send nothing.
use Rattle.std.proofs.Common.{◌≡◌, ◌<◌, ◌≤◌, ◌-◌, ℕ, Bool, true, false}
use Rattle.std.proofs.Common.{refl, sym, ap, ◌∙◌, subst, arith, Option, Some, None, inl, inr}
use Rattle.std.specs.Prelude.{nat_le, nat_lt, ◌==◌, ◌&&◌, ◌||◌, not, ◌⊎◌, is_some, if◌then◌else◌}
use Rattle.std.specs.Option.{option_map, option_and_then}
use Rattle.std.proofs.lemmas.Bool.Decides.{nat_tests}
use Rattle.tcp_machine.specs.declared.state.State.{State}
use Rattle.tcp_machine.specs.declared.state.State.TheVariants.{Closed, Listen, SynSent, SynReceived, Established, FinWait1}
use Rattle.tcp_machine.specs.declared.state.State.TheVariants.{FinWait2, CloseWait, Closing, LastAck, TimeWait}
use Rattle.tcp_machine.specs.declared.timers.Pending.{Pending}
use Rattle.tcp_machine.specs.declared.timers.Pending.TheVariants.{Empty, Challenge, Resend, Probe, KeepAlive, Reset, SynAgain}
use Rattle.tcp_machine.specs.declared.timers.Ending.TheVariants.{Refused}
use Rattle.tcp_machine.specs.Positions.{number_at, position_near}
use Rattle.tcp_machine.specs.Pieces.{Piece, after_piece}
use Rattle.tcp_machine.specs.Receiving.{Receiver, next, edge, expected, is_at, is_in_window, is_acceptable}
use Rattle.tcp_machine.specs.States.{is_opening, is_synchronized, sends_octets}
use Rattle.tcp_machine.specs.Connection.{Connection}
use Rattle.tcp_machine.specs.Segments.{Segment, acceptable_piece}
use Rattle.tcp_machine.specs.Acknowledgements.{rank, with_pending}
use Rattle.tcp_machine.specs.Arrivals.{is_time_wait, ended, with_time_wait, why_reset, after_reset, after_syn_once_more}
use Rattle.tcp_machine.specs.Arrivals.{after_ack_field, heard, after_piece_of, after_segment_arrives, is_answered}
use Rattle.tcp_machine.specs.Opening.{is_acknowledgement_of_syn, after_wrong_ack, after_syn, after_arrival_in_syn_sent, after_arrival_in}
use Rattle.tcp_machine.specs.Outgoing.{Action, SendNext, next_piece, is_worth_sending, ack_if, tells_something, action_in_opening}
use Rattle.tcp_machine.specs.Outgoing.{action_pending, is_reset}
use Rattle.tcp_laws.specs.Restraint.{IsUntouched, IsOutside, OutsideChangesNothing, OtherResetsChangeNothing, EarlyResetsChangeNothing}
use Rattle.tcp_laws.specs.Restraint.{NoResetAnswersAReset, ClosedIsSilent}
use Rattle.tcp_laws.proofs.ReceivingSteps.{false_true, is_at_some, first_of_two}
use Rattle.tcp_laws.proofs.MachineArrivals.{either}

-- one acknowledgement
lowest : (p : Pending) → nat_lt (rank p) 1 ≡ true → p ≡ Empty
lowest Empty e = refl
lowest Challenge e = false_true e
lowest SynAgain e = false_true e
lowest KeepAlive e = false_true e
lowest Probe e = false_true e
lowest Resend e = false_true e
lowest (Reset number) e = false_true e

challenged : (c : Connection) → IsUntouched c (with_pending Challenge c)
challenged c =
    either (IsUntouched c) (nat_lt (rank c.pending) (rank Challenge)) (record c { pending = Challenge }) c
    (λ e. inr (lowest c.pending e, refl)) (λ _. inl refl)

-- outside of the window
out : (e d q : ℕ) → (q < e) ⊎ (d ≤ q) → nat_le e q && nat_lt q d ≡ false
out e d q (inl h) = let t : nat_le e q ≡ false = grind (arith, nat_tests) in rw t refl
out e d q (inr h) = by (nat_le e q) where
  t : nat_lt q d ≡ false
  t = grind (arith, nat_tests)

  by : (b : Bool) → b && nat_lt q d ≡ false
  by true = t
  by false = refl

three : (a b c : Bool) → a ≡ false → b ≡ false → c ≡ false → a || b || c ≡ false
three false false false p q r = refl
three true b c p q r = false_true (sym p)
three false true c p q r = false_true (sym q)
three false false true p q r = false_true (sym r)

two : (a b : Bool) → a ≡ false → b ≡ false → a || b ≡ false
two false false p q = refl
two true b p q = false_true (sym p)
two false true p q = false_true (sym q)

not_equal : (a b : ℕ) → (a < b) ⊎ (b < a) → (a == b) ≡ false
not_equal a b (inl h) = grind (arith, nat_tests)
not_equal a b (inr h) = grind (arith, nat_tests)

starts_before : (p : Piece) → p.start ≤ after_piece p
starts_before p = omega arith

module _ (r : Receiver) (p : Piece) (o : IsOutside r p) where
  empty_out : ((p.start < expected r) × (p.start < edge r)) ⊎ ((expected r < p.start) × (edge r < p.start)) →
      is_in_window r p.start || p.start == edge r || p.start == expected r ≡ false
  empty_out (inl h) =
      let a = h.0 in
      let b = h.1 in
      three (is_in_window r p.start) (p.start == edge r) (p.start == expected r) (out (expected r) (edge r) p.start (inl a))
      (not_equal p.start (edge r) (inl b)) (not_equal p.start (expected r) (inl a))
  empty_out (inr h) =
      let a = h.0 in
      let b = h.1 in
      three (is_in_window r p.start) (p.start == edge r) (p.start == expected r)
      (out (expected r) (edge r) p.start (inr (omega (arith, b)))) (not_equal p.start (edge r) (inr b))
      (not_equal p.start (expected r) (inr a))

  either_way : (b : Bool) → nat_lt p.start (after_piece p) ≡ b →
      (if b then is_in_window r p.start || is_in_window r (after_piece p - 1)
      else is_in_window r p.start || p.start == edge r || p.start == expected r) ≡ false
  either_way true e =
      let l : p.start < after_piece p = grind (arith, nat_tests) in
      two (is_in_window r p.start) (is_in_window r (after_piece p - 1))
      (out (expected r) (edge r) p.start (o.positions p.start (omega arith) l))
      (out (expected r) (edge r) (after_piece p - 1) (o.positions (after_piece p - 1) (omega (arith, l)) (omega (arith, l))))
  either_way false e =
      let l : after_piece p ≤ p.start = grind (arith, nat_tests) in
      let same : after_piece p ≡ p.start = omega (arith, l, starts_before p) in
      empty_out (o.empty same)

  unacceptable : is_acceptable r p ≡ false
  unacceptable = either_way (nat_lt p.start (after_piece p)) refl

no_syn : {P : Type 0} (a b : Bool) → a ≡ false → a && b ≡ true → P
no_syn true b e f = false_true (sym e)
no_syn false b e f = false_true f

no_fin : {P : Type 0} (a b : Bool) → b ≡ false → a && b ≡ true → P
no_fin true b e f = false_true (sym e ∙ f)
no_fin false b e f = false_true f

pub outside_changes_nothing : OutsideChangesNothing
outside_changes_nothing now keeps s c p syn wait at outside =
    let r = c.reception.receiver in
    let piece : Piece = record { start = p; octets = s.octets; ends = s.fin } in
    let f : Piece → Option Piece = λ q. if is_acceptable r q then Some q else None in
    let read : ℕ → Piece = λ q. record { start = q; octets = s.octets; ends = s.fin } in
    let none : acceptable_piece c s ≡ None =
    ap (λ o. option_and_then f (option_map read o)) at ∙ ap (λ b. if b then Some piece else None) (unacceptable r piece outside) in
    either (IsUntouched c) (s.syn && not s.rst)
    (after_syn_once_more s c)
    (after_piece_of now keeps (acceptable_piece c s) s c) (λ e. no_syn s.syn (not s.rst) syn e) (λ _.
    subst (λ o. IsUntouched c (after_piece_of now keeps o s c)) (sym none)
    (either (IsUntouched c) (s.rst || not (is_answered s c)) c
    (if s.fin && is_time_wait c.state then with_time_wait now (with_pending Challenge c) else with_pending Challenge c) (λ _. inl refl) (λ _.
    either (IsUntouched c) (s.fin && is_time_wait c.state) (with_time_wait now (with_pending Challenge c)) (with_pending Challenge c)
    (λ e. no_fin s.fin (is_time_wait c.state) wait e) (λ _. challenged c))))

-- resets
neither : (a b : Bool) → a || b ≡ false → a ≡ false
neither true b e = false_true (sym e)
neither false b e = refl

resets_no_syn : {P : Type 0} (a b : Bool) → b ≡ true → a && not b ≡ true → P
resets_no_syn true true e f = false_true f
resets_no_syn true false e f = false_true e
resets_no_syn false b e f = false_true f

equal_of : (a b : ℕ) → (a == b) ≡ true → a ≡ b
equal_of a b h = grind (arith, nat_tests)

module _ (now : ℕ) (keeps : Bool) (s : Segment) (c : Connection) (reset : s.rst ≡ true)
    (other : position_near c.remote (next c.reception.receiver) s.number ≡ Some (expected c.reception.receiver) → ⊥) where
  abbrev r : Receiver
  r = c.reception.receiver

  abbrev piece_at : ℕ → Piece
  piece_at q = record { start = q; octets = s.octets; ends = s.fin }

  taken : (o : Option ℕ) → position_near c.remote (next r) s.number ≡ o → (b : Bool) → (q : ℕ) → o ≡ Some q →
      IsUntouched c (after_piece_of now keeps (if b then Some (piece_at q) else None) s c)
  taken o e false q at =
      either (IsUntouched c) (s.rst || not (is_answered s c)) c
      (if s.fin && is_time_wait c.state then with_time_wait now (with_pending Challenge c) else with_pending Challenge c) (λ _. inl refl)
      (λ f. false_true (sym (neither s.rst (not (is_answered s c)) f) ∙ reset))
  taken o e true q at =
      either (IsUntouched c) s.rst (after_reset (piece_at q) c) (after_ack_field now keeps s.ack s (piece_at q) (heard now c)) (λ _.
      either (IsUntouched c) (is_time_wait c.state) c
      (if q == expected r then ended (Some (why_reset c)) c else if is_in_window r q then with_pending Challenge c else c)
      (λ _. inl refl) (λ _.
      either (IsUntouched c) (q == expected r) (ended (Some (why_reset c)) c) (if is_in_window r q then with_pending Challenge c else c)
      (λ f. absurd (other (e ∙ at ∙ ap (λ (n : ℕ). Some n) (equal_of q (expected r) f))))
      (λ _. either (IsUntouched c) (is_in_window r q) (with_pending Challenge c) c (λ _. challenged c) (λ _. inl refl))))
      (λ f. false_true (sym f ∙ reset))

  read_as : (o : Option ℕ) → position_near c.remote (next r) s.number ≡ o →
      IsUntouched c (after_piece_of now keeps
      (option_and_then (λ (p : Piece). if is_acceptable r p then Some p else None) (option_map (λ p. piece_at p) o)) s c)
  read_as None e =
      either (IsUntouched c) (s.rst || not (is_answered s c)) c
      (if s.fin && is_time_wait c.state then with_time_wait now (with_pending Challenge c) else with_pending Challenge c) (λ _. inl refl)
      (λ f. false_true (sym (neither s.rst (not (is_answered s c)) f) ∙ reset))
  read_as (Some q) e = taken (Some q) e (is_acceptable r (piece_at q)) q refl

  untouched : IsUntouched c (after_segment_arrives now keeps s c)
  untouched =
      either (IsUntouched c) (s.syn && not s.rst)
      (after_syn_once_more s c)
      (after_piece_of now keeps (acceptable_piece c s) s c) (λ e. resets_no_syn s.syn s.rst reset e)
      (λ _. read_as (position_near c.remote (next r) s.number) refl)

pub other_resets_change_nothing : OtherResetsChangeNothing
other_resets_change_nothing now keeps s c reset other = untouched now keeps s c reset other

unchanged_wrong : (s : Segment) (c : Connection) → s.rst ≡ true → (o : Option ℕ) → after_wrong_ack o s c ≡ c
unchanged_wrong s c reset None = refl
unchanged_wrong s c reset (Some n) =
    let is : Connection → Type 0 = λ d. d ≡ c in
    either is s.rst c (with_pending (Reset n) c) (λ _. refl) (λ f. false_true (sym f ∙ reset))

pub early_resets_change_nothing : EarlyResetsChangeNothing
early_resets_change_nothing default link now s c reset other =
    let is : Connection → Type 0 = λ d. d ≡ c in
    either is (is_acknowledgement_of_syn s c)
    (if s.rst then ended (Some Refused) c else if s.syn then after_syn default link now true s c else c)
    (if is_some s.ack then after_wrong_ack s.ack s c else if s.syn && not s.rst then after_syn default link now false s c else c)
    (λ e. absurd (other (is_at_some s.ack (number_at c.local 1)
    (first_of_two (is_at s.ack (number_at c.local 1)) (is_some c.timers.waiting_since) e)))) (λ _.
    either is (is_some s.ack) (after_wrong_ack s.ack s c) (if s.syn && not s.rst then after_syn default link now false s c else c)
    (λ _. unchanged_wrong s c reset s.ack) (λ _.
    either is (s.syn && not s.rst) (after_syn default link now false s c) c (λ e. resets_no_syn s.syn s.rst reset e) (λ _. refl)))

-- no reset is owed that wasn't before
module _ (default link now : ℕ) (keeps : Bool) (s : Segment) (number : ℕ) (reset : s.rst ≡ true) where
  abbrev Quiet : Connection → Connection → Type 0
  Quiet c d = d.pending ≡ Reset number → c.pending ≡ Reset number

  quiet_challenge : (c : Connection) → Quiet c (with_pending Challenge c)
  quiet_challenge c =
      either (Quiet c) (nat_lt (rank c.pending) (rank Challenge)) (record c { pending = Challenge }) c (λ _. λ e. cc) (λ _. λ e. e)

  quiet_piece : (c : Connection) (o : Option Piece) → Quiet c (after_piece_of now keeps o s c)
  quiet_piece c None =
      either (Quiet c) (s.rst || not (is_answered s c)) c
      (if s.fin && is_time_wait c.state then with_time_wait now (with_pending Challenge c) else with_pending Challenge c) (λ _. λ e. e)
      (λ f. false_true (sym (neither s.rst (not (is_answered s c)) f) ∙ reset))
  quiet_piece c (Some p) =
      either (Quiet c) s.rst (after_reset p c) (after_ack_field now keeps s.ack s p (heard now c)) (λ _.
      either (Quiet c) (is_time_wait c.state) c
      (if p.start == expected c.reception.receiver then ended (Some (why_reset c)) c
      else if is_in_window c.reception.receiver p.start then with_pending Challenge c else c) (λ _. λ e. e) (λ _.
      either (Quiet c) (p.start == expected c.reception.receiver) (ended (Some (why_reset c)) c)
      (if is_in_window c.reception.receiver p.start then with_pending Challenge c else c) (λ _. λ e. cc) (λ _.
      either (Quiet c) (is_in_window c.reception.receiver p.start) (with_pending Challenge c) c (λ _. quiet_challenge c) (λ _. λ e. e))))
      (λ f. false_true (sym f ∙ reset))

  quiet_arrival : (c : Connection) → Quiet c (after_segment_arrives now keeps s c)
  quiet_arrival c =
      either (Quiet c) (s.syn && not s.rst)
      (after_syn_once_more s c)
      (after_piece_of now keeps (acceptable_piece c s) s c) (λ e. resets_no_syn s.syn s.rst reset e)
      (λ _. quiet_piece c (acceptable_piece c s))

  quiet_wrong : (c : Connection) (o : Option ℕ) → Quiet c (after_wrong_ack o s c)
  quiet_wrong c None = λ e. e
  quiet_wrong c (Some n) = either (Quiet c) s.rst c (with_pending (Reset n) c) (λ _. λ e. e) (λ f. false_true (sym f ∙ reset))

  quiet_asking : (c : Connection) → Quiet c (after_arrival_in_syn_sent default link now s c)
  quiet_asking c =
      either (Quiet c) (is_acknowledgement_of_syn s c)
      (if s.rst then ended (Some Refused) c else if s.syn then after_syn default link now true s c else c)
      (if is_some s.ack then after_wrong_ack s.ack s c else if s.syn && not s.rst then after_syn default link now false s c else c) (λ _.
      either (Quiet c) s.rst (ended (Some Refused) c) (if s.syn then after_syn default link now true s c else c) (λ _. λ e. cc)
      (λ f. false_true (sym f ∙ reset))) (λ _.
      either (Quiet c) (is_some s.ack) (after_wrong_ack s.ack s c) (if s.syn && not s.rst then after_syn default link now false s c else c)
      (λ _. quiet_wrong c s.ack) (λ _.
      either (Quiet c) (s.syn && not s.rst) (after_syn default link now false s c) c (λ e. resets_no_syn s.syn s.rst reset e) (λ _. λ e. e)))

  quiet_in : (c : Connection) (t : State) → Quiet c (after_arrival_in t default link now keeps s c)
  quiet_in c Closed = λ e. e
  quiet_in c Listen = λ e. e
  quiet_in c SynSent = quiet_asking c
  quiet_in c SynReceived = quiet_arrival c
  quiet_in c Established = quiet_arrival c
  quiet_in c FinWait1 = quiet_arrival c
  quiet_in c FinWait2 = quiet_arrival c
  quiet_in c CloseWait = quiet_arrival c
  quiet_in c Closing = quiet_arrival c
  quiet_in c LastAck = quiet_arrival c
  quiet_in c TimeWait = quiet_arrival c

pub no_reset_answers_a_reset : NoResetAnswersAReset
no_reset_answers_a_reset default link now keeps s c number reset e = quiet_in default link now keeps s number reset c c.state e

-- a connection that is gone
pub closed_is_silent : ClosedIsSilent
closed_is_silent now c closed empty = record {
  silent =
      let opened : State → Option Action = λ t.
      if is_opening t && not (is_reset c.pending) then action_in_opening now c
      else action_pending c.pending now c in
      let sending : State → Option Action = λ t.
      if sends_octets t && is_worth_sending c (next_piece c) then Some (SendNext (next_piece c))
      else ack_if (is_synchronized t && tells_something now c) in
      ap opened closed ∙ ap (λ p. action_pending p now c) empty ∙ ap sending closed;
  stays = λ default link keeps s. ap (λ t. after_arrival_in t default link now keeps s c) closed;
}
