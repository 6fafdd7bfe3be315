-- The windows that a connection told stay.
use Rattle.std.proofs.Common.{◌≡◌, ◌<◌, ◌≤◌, ◌+◌, ◌-◌, ◌*◌, ◌/◌, ◌^◌, ℕ, zero, suc, Bool, true, false, List, [], ◌∷◌, ◌++◌, length, drop}
use Rattle.std.proofs.Common.{refl, sym, ap, ◌∙◌, subst, arith, Option, Some, None, slice_get, inl, inr}
use Rattle.std.specs.Prelude.{nat_le, nat_lt, ◌&&◌, ◌⊎◌, not, min, max, replicate, if◌then◌else◌}
use Rattle.std.proofs.lemmas.Bool.Decides.{nat_tests}
use Rattle.std.proofs.lemmas.Nat.{pow_pos}
use Rattle.std.proofs.lemmas.Option.{none-some, slice_get_within}
use Rattle.std.proofs.lemmas.List.{length-append, length-drop, length-replicate}
use Rattle.std.proofs.Math.Nat.{div-mul-le_self, lt-div-mul-add, mul-le-mul_right}
use Rattle.tcp_machine.specs.declared.state.State.{State}
use Rattle.tcp_machine.specs.declared.state.State.TheVariants.{Closed, Listen, SynSent, SynReceived, Established, FinWait1, FinWait2, CloseWait}
use Rattle.tcp_machine.specs.declared.state.State.TheVariants.{Closing, LastAck, TimeWait}
use Rattle.tcp_machine.specs.declared.settings.Settings.{Settings}
use Rattle.tcp_machine.specs.declared.timers.Owed.{Owed}
use Rattle.tcp_machine.specs.declared.timers.Owed.TheVariants.{Nothing, AtOnce}
use Rattle.tcp_machine.specs.Pieces.{Piece}
use Rattle.tcp_machine.specs.declared.timers.Pending.{Pending}
use Rattle.tcp_machine.specs.declared.timers.Pending.TheVariants.{Empty, Challenge, Resend, Probe, KeepAlive, Reset, SynAgain}
use Rattle.tcp_machine.specs.Receiving.{Receiver, in_order, next, edge, expected, is_at, after_read}
use Rattle.tcp_machine.specs.States.{is_opening, is_synchronized, sends_octets}
use Rattle.tcp_machine.specs.Connection.{Connection, Reception}
use Rattle.tcp_machine.specs.Windows.{window_step, next_promise, window_field}
use Rattle.tcp_machine.specs.Opening.{no_reception, own_scale_for, after_arrival}
use Rattle.tcp_machine.specs.Calls.{last_position, readable_count, after_reading, after_closing, after_abort}
use Rattle.tcp_machine.specs.Timers.{after_timers}
use Rattle.tcp_machine.specs.Outgoing.{Action, SendReset, SendSyn, SendNext, SendAgain, SendProbe, SendKeepAlive, SendAck, is_challenge, action_in_opening, is_syn_sent}
use Rattle.tcp_machine.specs.Outgoing.{next_piece, first_piece, again_piece, has_octets, is_worth_sending, ack_if, tells_something}
use Rattle.tcp_machine.specs.Outgoing.{action_pending, is_reset, is_syn_due, action, promise_now, reception_told, after_action}
use Rattle.tcp_laws.specs.Machines.{Sent, sent_as, IsPlain, Side, unopened, Act, Opens, Accepts, Writes, Reads, Closes, Aborts, Chooses, Fits, Fails}
use Rattle.tcp_laws.specs.Machines.{Gets, Expires, Sends, arrived, after_sending, after_act}
use Rattle.tcp_laws.specs.Waiting.{after_acts}
use Rattle.tcp_laws.specs.Edges.{told_edge, Begins, NoneBegins, WindowsStayTold}
use Rattle.tcp_laws.proofs.Lists.{in_order_none, in_order_drop, in_order_short}
use Rattle.tcp_laws.proofs.ReceivingSteps.{false_true, more}
use Rattle.tcp_laws.proofs.MachineArrivals.{either}
use Rattle.tcp_machine.specs.Reports.{after_too_long, after_unreachable}
use Rattle.tcp_laws.proofs.Onward.{Onward, onward_same, on_in, on_timers, on_closing, on_abort, on_fits, on_fails}

-- what holds of a connection's state and reception, and of the segments that it sent
pub record Told (st : State) (r : Reception) (log : List Sent) : Type 0 where
  pub first : 1 ≤ r.receiver.base
  pub room : r.promised ≤ edge r.receiver
  pub none : is_syn_sent st ≡ true → (i : ℕ) (k : Sent) → slice_get log i ≡ Some k → IsPlain k.segment → ⊥
  pub low : (i : ℕ) (k : Sent) → slice_get log i ≡ Some k → IsPlain k.segment → told_edge r.scale k ≤ max r.promised (expected r.receiver)
  pub near : (i : ℕ) (k : Sent) → slice_get log i ≡ Some k → IsPlain k.segment →
      told_edge r.scale k ≤ expected r.receiver + 65535 * 2 ^ r.scale
  pub kept : (i j : ℕ) (k l : Sent) → i ≤ j → slice_get log i ≡ Some k → slice_get log j ≡ Some l → IsPlain k.segment → IsPlain l.segment →
      told_edge r.scale k ≤ told_edge r.scale l + (2 ^ r.scale - 1)

abbrev pub IsTold : Connection → List Sent → Type 0
IsTold c log = Told c.state c.reception log

-- numbers
to_max : (t p e f : ℕ) → t ≤ max p e → e ≤ f → t ≤ max p f
to_max t p e f h k = grind arith

to_far : (t e f m : ℕ) → t ≤ e + m → e ≤ f → t ≤ f + m
to_far t e f m h k = omega (arith, h, k)

same_room : (p q b n c m : ℕ) → p ≤ b + n → q ≡ p → b ≤ c → m ≡ n → q ≤ c + m
same_room p q b n c m h e l f = omega (arith, h, e, l, f)

-- what arrives, timers and a program
onward : (st s : State) (r q : Reception) (log : List Sent) → Onward st r s q → Told st r log → Told s q log
onward st s r q log o h = by (is_syn_sent st) refl where
  first : 1 ≤ q.receiver.base
  first = let a = h.first in let b = o.base in omega (arith, a, b)

  room : q.promised ≤ edge q.receiver
  room =
      same_room r.promised q.promised r.receiver.base (length r.receiver.cells) q.receiver.base (length q.receiver.cells) h.room o.promised
      o.base o.places

  by : (b : Bool) → is_syn_sent st ≡ b → Told s q log
  by true e = record {
    first = first;
    room = room;
    none = λ f. h.none e;
    low = λ i k g p. absurd (h.none e i k g p);
    near = λ i k g p. absurd (h.none e i k g p);
    kept = λ i j k l n g f p x. absurd (h.none e i k g p);
  }
  by false e =
      let scale = o.scale e in record {
        first = first;
        room = room;
        none = λ f. h.none (o.opens f);
        low = λ i k g p. rw scale (rw o.promised
            (to_max (told_edge r.scale k) r.promised (expected r.receiver) (expected q.receiver) (h.low i k g p) o.expected));
        near = λ i k g p. rw scale
            (to_far (told_edge r.scale k) (expected r.receiver) (expected q.receiver) (65535 * 2 ^ r.scale) (h.near i k g p) o.expected);
        kept = λ i j k l n g f p x. rw scale (h.kept i j k l n g f p x);
      }

-- reading
count_within : (n l m : ℕ) → min n (min l m) ≤ l
count_within n l m = grind arith

read_next : (n : ℕ) (r : Receiver) → n ≤ length (in_order r.cells) → next (after_read n r) ≡ next r
read_next n r h =
    let e = ap length (in_order_none (drop n r.cells) n ∙ in_order_drop n r.cells h) ∙ length-drop n (in_order r.cells) in
    omega (arith, e, h)

read_places : (n : ℕ) (cells : List (Option ℕ)) → n ≤ length cells → length (drop n cells ++ replicate n None) ≡ length cells
read_places n cells h =
    let holes : List (Option ℕ) = replicate n None in
    let a = length-append (drop n cells) holes in
    let b = length-drop n cells in
    let c : length holes ≡ n = length-replicate n None in
    omega (arith, a, b, c, h)

onward_read : (n : ℕ) (s : State) (r : Reception) → n ≤ length (in_order r.receiver.cells) →
    Onward s r s (record r { receiver = after_read n r.receiver })
onward_read n s r h =
    let same = read_next n r.receiver h in
    let x = r.receiver in
    let y = after_read n x in record {
      opens = λ e. e;
      promised = refl;
      scale = λ _. refl;
      expected = more (is_at x.stop (next x)) (is_at x.stop (next y)) (next x) (next y) (omega (arith, same))
          (λ e t. ap (is_at x.stop) (sym e) ∙ t);
      base = omega arith;
      places = let short = in_order_short x.cells in read_places n x.cells (omega (arith, h, short));
    }

-- a segment more
last_or : (log : List Sent) (k : Sent) (i : ℕ) (l : Sent) → slice_get (log ++ k ∷ []) i ≡ Some l →
    (slice_get log i ≡ Some l) ⊎ ((i ≡ length log) × (k ≡ l))
last_or [] k zero l e = inr (refl, cc)
last_or [] k (suc i) l e = absurd (none-some l e)
last_or (x ∷ log) k zero l e = inl e
last_or (x ∷ log) k (suc i) l e = by (last_or log k i l e) where
  by : (slice_get log i ≡ Some l) ⊎ ((i ≡ length log) × (k ≡ l)) →
      (slice_get (x ∷ log) (suc i) ≡ Some l) ⊎ ((suc i ≡ length (x ∷ log)) × (k ≡ l))
  by (inl h) = inl h
  by (inr h) = inr (ap suc h.0, h.1)

module _ (st : State) (r : Reception) (log : List Sent) (k : Sent) where
  -- one that isn't plain
  quiet : (IsPlain k.segment → ⊥) → Told st r log → Told st r (log ++ k ∷ [])
  quiet other h = record {
    first = h.first;
    room = h.room;
    none = λ e i l g p. none e i l p (last_or log k i l g);
    low = λ i l g p. low i l p (last_or log k i l g);
    near = λ i l g p. near i l p (last_or log k i l g);
    kept = λ i j a b n f g p q. kept i j a b n p q (last_or log k i a f) (last_or log k j b g);
  } where
    not_last : {P : Type 0} (l : Sent) → k ≡ l → IsPlain l.segment → P
    not_last l e p = absurd (other (subst (λ (x : Sent). IsPlain x.segment) (sym e) p))

    none : is_syn_sent st ≡ true → (i : ℕ) (l : Sent) → IsPlain l.segment →
        ((slice_get log i ≡ Some l) ⊎ ((i ≡ length log) × (k ≡ l))) → ⊥
    none e i l p (inl g) = h.none e i l g p
    none e i l p (inr g) = not_last l g.1 p

    low : (i : ℕ) (l : Sent) → IsPlain l.segment → ((slice_get log i ≡ Some l) ⊎ ((i ≡ length log) × (k ≡ l))) →
        told_edge r.scale l ≤ max r.promised (expected r.receiver)
    low i l p (inl g) = h.low i l g p
    low i l p (inr g) = not_last l g.1 p

    near : (i : ℕ) (l : Sent) → IsPlain l.segment → ((slice_get log i ≡ Some l) ⊎ ((i ≡ length log) × (k ≡ l))) →
        told_edge r.scale l ≤ expected r.receiver + 65535 * 2 ^ r.scale
    near i l p (inl g) = h.near i l g p
    near i l p (inr g) = not_last l g.1 p

    kept : (i j : ℕ) (a b : Sent) → i ≤ j → IsPlain a.segment → IsPlain b.segment →
        ((slice_get log i ≡ Some a) ⊎ ((i ≡ length log) × (k ≡ a))) → ((slice_get log j ≡ Some b) ⊎ ((j ≡ length log) × (k ≡ b))) →
        told_edge r.scale a ≤ told_edge r.scale b + (2 ^ r.scale - 1)
    kept i j a b n p q (inl f) (inl g) = h.kept i j a b n f g p q
    kept i j a b n p q (inr f) o = not_last a f.1 p
    kept i j a b n p q (inl f) (inr g) = not_last b g.1 q

-- what a window field tells
module _ (e p m : ℕ) (some : 0 < m) where
  abbrev units : ℕ
  units = (p - e) / m

  abbrev tells : ℕ
  tells = e + min 65535 units * m

  below : units * m ≤ p - e
  below = div-mul-le_self (p - e) m

  above : p - e < units * m + m
  above = lt-div-mul-add some

  scaled : (w u : ℕ) → w ≤ u → w * m ≤ u * m
  scaled w u h = mul-le-mul_right m h

  tells_low : tells ≤ max p e
  tells_low =
      let a = scaled (min 65535 units) units (grind arith) in
      let b = below in grind (arith, a, b)

  tells_near : tells ≤ e + 65535 * m
  tells_near = let a = scaled (min 65535 units) 65535 (grind arith) in omega (arith, a)

  tells_all : (t : ℕ) → t ≤ max p e → t ≤ e + 65535 * m → t ≤ tells + (m - 1)
  tells_all t low near = by (nat_le units 65535) refl where
    by : (b : Bool) → nat_le units 65535 ≡ b → t ≤ tells + (m - 1)
    by true h =
        let is : min 65535 units ≡ units = grind (arith, nat_tests) in
        let a = above in
        rw is (grind (arith, a))
    by false h =
        let is : min 65535 units ≡ 65535 = grind (arith, nat_tests) in
        rw is (omega (arith, near))

-- what is promised in a segment
promises : (own : ℕ) (r : Reception) → r.promised ≤ edge r.receiver →
    (r.promised ≤ next_promise own r) × (next_promise own r ≤ edge r.receiver)
promises own r h = by (nat_le (r.promised + window_step own r.receiver) (edge r.receiver)) refl where
  by : (b : Bool) → nat_le (r.promised + window_step own r.receiver) (edge r.receiver) ≡ b →
      (r.promised ≤ (if b then edge r.receiver else r.promised)) × ((if b then edge r.receiver else r.promised) ≤ edge r.receiver)
  by true e = (h, omega arith)
  by false e = (omega arith, h)

wider : (t p q e : ℕ) → t ≤ max p e → p ≤ q → t ≤ max q e
wider t p q e h k = grind arith

-- a segment that tells a window
module _ (c : Connection) (log : List Sent) (k : Sent) (up : is_syn_sent c.state ≡ false)
    (acknowledged : k.acknowledged ≡ expected c.reception.receiver)
    (window : k.segment.window ≡ window_field (promise_now c) c.reception) (h : IsTold c log) where
  abbrev r : Reception
  r = c.reception

  abbrev m : ℕ
  m = 2 ^ r.scale

  abbrev e : ℕ
  e = expected r.receiver

  abbrev p : ℕ
  p = promise_now c

  further : (r.promised ≤ p) × (p ≤ edge r.receiver)
  further = promises c.settings.own_mss r h.room

  is : told_edge r.scale k ≡ tells e p m (pow_pos r.scale)
  is = rw acknowledged (rw window refl)

  pub told : Told c.state (reception_told c) (log ++ k ∷ [])
  told = record {
    first = h.first;
    room = further.1;
    none = λ f. false_true (sym up ∙ f);
    low = λ i l g q. low i l q (last_or log k i l g);
    near = λ i l g q. near i l q (last_or log k i l g);
    kept = λ i j a b n f g x y. kept i j a b n x y (last_or log k i a f) (last_or log k j b g);
  } where
    low : (i : ℕ) (l : Sent) → IsPlain l.segment → ((slice_get log i ≡ Some l) ⊎ ((i ≡ length log) × (k ≡ l))) →
        told_edge r.scale l ≤ max p e
    low i l q (inl g) = wider (told_edge r.scale l) r.promised p e (h.low i l g q) further.0
    low i l q (inr g) =
        subst (λ (x : Sent). told_edge r.scale x ≤ max p e) g.1 (rw is (tells_low e p m (pow_pos r.scale)))

    near : (i : ℕ) (l : Sent) → IsPlain l.segment → ((slice_get log i ≡ Some l) ⊎ ((i ≡ length log) × (k ≡ l))) →
        told_edge r.scale l ≤ e + 65535 * m
    near i l q (inl g) = h.near i l g q
    near i l q (inr g) =
        subst (λ (x : Sent). told_edge r.scale x ≤ e + 65535 * m) g.1 (rw is (tells_near e p m (pow_pos r.scale)))

    last : (t : ℕ) → t ≤ max p e → t ≤ e + 65535 * m → t ≤ told_edge r.scale k + (m - 1)
    last t a b = rw is (tells_all e p m (pow_pos r.scale) t a b)

    kept : (i j : ℕ) (a b : Sent) → i ≤ j → IsPlain a.segment → IsPlain b.segment →
        ((slice_get log i ≡ Some a) ⊎ ((i ≡ length log) × (k ≡ a))) → ((slice_get log j ≡ Some b) ⊎ ((j ≡ length log) × (k ≡ b))) →
        told_edge r.scale a ≤ told_edge r.scale b + (m - 1)
    kept i j a b n x y (inl f) (inl g) = h.kept i j a b n f g x y
    kept i j a b n x y o (inr g) =
        subst (λ (z : Sent). told_edge r.scale a ≤ told_edge r.scale z + (m - 1)) g.1
        (last (told_edge r.scale a) (low i a x o) (near i a x o))
    kept i j a b n x y (inr f) (inl g) =
        let long = slice_get_within log j b g in
        let at = f.0 in absurd (omega (arith, long, at, n))

-- what is sent
abbrev after_some : ℕ → Option Action → Connection → Connection
after_some now None c = c
after_some now (Some m) c = after_action now m c

abbrev with_some : Option Action → Connection → List Sent → List Sent
with_some None c log = log
with_some (Some m) c log = log ++ sent_as m c ∷ []

not_and_true : (b : Bool) → b && true ≡ false → b ≡ false
not_and_true true e = false_true (sym e)
not_and_true false e = refl

first_promise : (n b p : ℕ) → 1 ≤ b → p ≤ b + n → max p (1 + min 65535 n) ≤ b + n
first_promise n b p h k = grind arith

le_max_left : (a b : ℕ) → a ≤ max a b
le_max_left a b = grind arith

opened_knows : (s : State) → is_opening s ≡ false → is_syn_sent s ≡ false
opened_knows SynSent e = e
opened_knows Closed e = refl
opened_knows Listen e = refl
opened_knows SynReceived e = refl
opened_knows Established e = refl
opened_knows FinWait1 e = refl
opened_knows FinWait2 e = refl
opened_knows CloseWait e = refl
opened_knows Closing e = refl
opened_knows LastAck e = refl
opened_knows TimeWait e = refl

knows : (b c : Bool) → b && not c ≡ true → c ≡ false
knows true true e = sym e
knows true false e = refl
knows false c e = false_true e

module _ (now : ℕ) (c : Connection) (log : List Sent) (h : IsTold c log) where
  abbrev IsSentTold : Option Action → Type 0
  IsSentTold o = IsTold (after_some now o c) (with_some o c log)

  told_reset : (number : ℕ) → IsSentTold (Some (SendReset number))
  told_reset number = quiet c.state c.reception log (sent_as (SendReset number) c) (λ p. false_true (sym p.no_reset)) h

  told_syn : IsSentTold (Some SendSyn)
  told_syn =
      let r = c.reception in
      let p = max r.promised (1 + min 65535 (length r.receiver.cells)) in
      quiet c.state (after_action now SendSyn c).reception log (sent_as SendSyn c) (λ p. false_true (sym p.no_syn)) (record {
        first = h.first;
        room = first_promise (length r.receiver.cells) r.receiver.base r.promised h.first h.room;
        none = h.none;
        low = λ i k g q. wider (told_edge r.scale k) r.promised p (expected r.receiver) (h.low i k g q) (le_max_left r.promised (1 + min 65535 (length r.receiver.cells)));
        near = h.near;
        kept = h.kept;
      })

  module _ (up : is_syn_sent c.state ≡ false) where
    told_ack : (b : Bool) → IsSentTold (ack_if b)
    told_ack true = told c log (sent_as SendAck c) up refl refl h
    told_ack false = h

    told_keep : IsSentTold (Some SendKeepAlive)
    told_keep = told c log (sent_as SendKeepAlive c) up refl refl h

    told_next : (p : Piece) → IsSentTold (Some (SendNext p))
    told_next p = told c log (sent_as (SendNext p) c) up refl refl h

    told_again : (p : Piece) → IsSentTold (Some (SendAgain p))
    told_again p = told c log (sent_as (SendAgain p) c) up refl refl h

    told_probe : (p : Piece) → IsSentTold (Some (SendProbe p))
    told_probe p = told c log (sent_as (SendProbe p) c) up refl refl h

  told_pending : (p : Pending) → is_opening c.state && not (is_reset p) ≡ false → IsSentTold (action_pending p now c)
  told_pending Empty e =
      let up = opened_knows c.state (not_and_true (is_opening c.state) e) in
      either IsSentTold (sends_octets c.state && is_worth_sending c (next_piece c)) (Some (SendNext (next_piece c)))
      (ack_if (is_synchronized c.state && tells_something now c)) (λ _. told_next up (next_piece c))
      (λ _. told_ack up (is_synchronized c.state && tells_something now c))
  told_pending SynAgain e = told_ack (opened_knows c.state (not_and_true (is_opening c.state) e)) (is_synchronized c.state)
  told_pending Challenge e = told_ack (opened_knows c.state (not_and_true (is_opening c.state) e)) (is_synchronized c.state)
  told_pending KeepAlive e = told_keep (opened_knows c.state (not_and_true (is_opening c.state) e))
  told_pending Probe e =
      let up = opened_knows c.state (not_and_true (is_opening c.state) e) in
      either IsSentTold (sends_octets c.state && has_octets (next_piece c)) (Some (SendNext (next_piece c)))
      (Some (SendProbe (first_piece 1 c))) (λ _. told_next up (next_piece c)) (λ _. told_probe up (first_piece 1 c))
  told_pending Resend e = told_again (opened_knows c.state (not_and_true (is_opening c.state) e)) (again_piece c)
  told_pending (Reset number) e = told_reset number

  told_challenge : (b : Bool) → is_challenge c.pending && not (is_syn_sent c.state) ≡ b → IsSentTold (ack_if b)
  told_challenge true e = told_ack (knows (is_challenge c.pending) (is_syn_sent c.state) e) true
  told_challenge false e = h

  told_sends : IsSentTold (action now c)
  told_sends =
      either IsSentTold (is_opening c.state && not (is_reset c.pending)) (action_in_opening now c)
      (action_pending c.pending now c) (λ _.
      either IsSentTold (is_syn_due now c) (Some SendSyn) (ack_if (is_challenge c.pending && not (is_syn_sent c.state)))
      (λ _. told_syn) (λ _. told_challenge (is_challenge c.pending && not (is_syn_sent c.state)) refl)) (λ e. told_pending c.pending e)

-- whatever a side does once it has begun
abbrev unopened_cells : ℕ → List (Option ℕ)
unopened_cells size = replicate size None

abbrev TellsWell : Side → Type 0
TellsWell x = IsTold x.connection x.sent

told_after : (now : ℕ) (x : Side) (o : Option Action) → IsTold (after_some now o x.connection) (with_some o x.connection x.sent) →
    TellsWell (after_sending now o x)
told_after now x None h = h
told_after now x (Some m) h = h

told_act : (iss : ℕ) (act : Act) (x : Side) → (Begins act → ⊥) → TellsWell x → TellsWell (after_act iss act x)
told_act iss (Opens now mss settings) x n h = absurd (n tt)
told_act iss (Accepts now default link settings k options) x n h = absurd (n tt)
told_act iss (Writes octets) x n h = h
told_act iss (Reads count) x n h =
    let c = x.connection in
    let r = c.reception in
    let short = count_within count (length (in_order r.receiver.cells)) (last_position - r.receiver.base) in
    onward c.state c.state r (after_reading count c).reception x.sent (onward_read (readable_count count c) c.state r short) h
told_act iss Closes x n h =
    let c = x.connection in
    onward c.state (after_closing c).state c.reception (after_closing c).reception x.sent
    (on_closing c.state c.reception c (onward_same c.state c.reception)) h
told_act iss Aborts x n h =
    let c = x.connection in
    onward c.state (after_abort c).state c.reception (after_abort c).reception x.sent
    (on_abort c.state c.reception c (onward_same c.state c.reception)) h
told_act iss (Chooses settings) x n h = h
told_act iss (Fits size) x n h =
    let c = x.connection in
    let d = after_too_long size c in
    onward c.state d.state c.reception d.reception x.sent (on_fits c.state c.reception size c (onward_same c.state c.reception)) h
told_act iss Fails x n h =
    let c = x.connection in
    let d = after_unreachable c in
    onward c.state d.state c.reception d.reception x.sent (on_fails c.state c.reception c (onward_same c.state c.reception)) h
told_act iss (Gets default link now keeps k options) x n h =
    let c = x.connection in
    let d = after_arrival default link now keeps (arrived k.segment options) c in
    onward c.state d.state c.reception d.reception x.sent
    (on_in c.state c.reception now keeps (arrived k.segment options) default link c.state c refl (onward_same c.state c.reception)) h
told_act iss (Expires now) x n h =
    let c = x.connection in
    let d = after_timers now c in
    onward c.state d.state c.reception d.reception x.sent
    (on_timers c.state c.reception now c (onward_same c.state c.reception)) h
told_act iss (Sends now) x n h = told_after now x (action now x.connection) (told_sends now x.connection x.sent h)

told_acts : (iss : ℕ) (acts : List Act) (x : Side) → NoneBegins acts → TellsWell x → TellsWell (after_acts iss acts x)
told_acts iss [] x n h = h
told_acts iss (act ∷ acts) x n h = told_acts iss acts (after_act iss act x) n.1 (told_act iss act x n.0 h)

-- when it begins
at_first : (st : State) (size scale : ℕ) (o : Owed) (permitted : Bool) →
    Told st (record (no_reception size) { scale = scale; owed = o; sack_permitted = permitted }) []
at_first st size scale o permitted = record {
  first = omega arith;
  room = omega arith;
  none = λ _ i k g. absurd (none-some k g);
  low = λ i k g. absurd (none-some k g);
  near = λ i k g. absurd (none-some k g);
  kept = λ i j k l n g. absurd (none-some k g);
}

told_first : (iss room size : ℕ) (settings : Settings) (act : Act) → Begins act → TellsWell (after_act iss act (unopened room size settings))
told_first iss room size settings (Opens now mss other) b = at_first SynSent (length (unopened_cells size)) 0 Nothing false
told_first iss room size settings (Accepts now default link other k options) b =
    at_first SynReceived (length (unopened_cells size)) (own_scale_for other.own_scale options.scale) AtOnce options.sack_permitted
told_first iss room size settings (Writes octets) b = elim b [ ]
told_first iss room size settings (Reads count) b = elim b [ ]
told_first iss room size settings Closes b = elim b [ ]
told_first iss room size settings Aborts b = elim b [ ]
told_first iss room size settings (Chooses other) b = elim b [ ]
told_first iss room size settings (Fits other) b = elim b [ ]
told_first iss room size settings Fails b = elim b [ ]
told_first iss room size settings (Gets default link now keeps k options) b = elim b [ ]
told_first iss room size settings (Expires now) b = elim b [ ]
told_first iss room size settings (Sends now) b = elim b [ ]

-- so each position that was told has room
has_room : (q t p e d : ℕ) → q < t → t ≤ max p e → p ≤ d → (q < e) ⊎ (q < d)
has_room q t p e d h k l = by (nat_lt q e) refl where
  by : (b : Bool) → nat_lt q e ≡ b → (q < e) ⊎ (q < d)
  by true f = inl (grind (arith, nat_tests))
  by false f = inr (grind (arith, nat_tests))

pub windows_stay : WindowsStayTold
windows_stay iss room size settings first acts b n =
    let x = unopened room size settings in
    let y = after_acts iss acts (after_act iss first x) in
    let h = told_acts iss acts (after_act iss first x) n (told_first iss room size settings first b) in
    let r = y.connection.reception in record {
      room = λ i q k g p l.
          has_room q (told_edge r.scale k) r.promised (expected r.receiver) (edge r.receiver) l (h.low i k g p) h.room;
      kept = h.kept;
    }
