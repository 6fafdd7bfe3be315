-- At an instant so many segments leave nothing to be sent: each of them makes a number less.
use Rattle.std.proofs.Common.{◌≡◌, ◌<◌, ◌≤◌, ◌+◌, ◌-◌, ℕ, zero, suc, Bool, true, false, List, length, take, drop}
use Rattle.std.proofs.Common.{refl, sym, ap, subst, ◌∙◌, arith, Option, Some, None}
use Rattle.std.specs.Prelude.{min, max, nat_le, nat_lt, ◌*◌, ◌/◌, ◌==◌, ◌&&◌, ◌||◌, not, if◌then◌else◌}
use Rattle.std.proofs.lemmas.Bool.Decides.{nat_tests}
use Rattle.std.proofs.lemmas.List.{length-take, length-drop}
use Rattle.tcp_machine.specs.declared.timers.Pending.{Pending}
use Rattle.tcp_machine.specs.declared.timers.Pending.TheVariants.{Empty, Challenge, Resend, Probe, KeepAlive, Reset, SynAgain}
use Rattle.tcp_machine.specs.States.{is_synchronized, is_opening, sends_octets}
use Rattle.tcp_machine.specs.Receiving.{is_at, edge}
use Rattle.tcp_machine.specs.Pieces.{Piece, after_piece}
use Rattle.tcp_machine.specs.Connection.{Connection, Reception}
use Rattle.tcp_machine.specs.Windows.{next_promise, window_step, is_update_due}
use Rattle.tcp_machine.specs.Outgoing.{Action, SendReset, SendSyn, SendNext, SendAgain, SendProbe, SendAck, is_challenge, action_in_opening, is_repeated_syn, is_syn_sent}
use Rattle.tcp_machine.specs.Outgoing.{limit_of, next_piece, first_piece, is_worth_sending, has_octets, is_held_by_nagle, is_last}
use Rattle.tcp_machine.specs.Outgoing.{is_owed, tells_something, ack_if, again_piece, action_pending}
use Rattle.tcp_machine.specs.Outgoing.{is_reset, is_syn_due, action, told_to_peer, reception_told, syn_sent, piece_sent}
use Rattle.tcp_machine.specs.Outgoing.{after_action}
use Rattle.tcp_laws.specs.Spinning.{after_offer, after_offers, waiting_octets, NothingSpins}
use Rattle.tcp_laws.proofs.ReceivingSteps.{false_true, first_of_two}
use Rattle.tcp_laws.proofs.MachineArrivals.{either, last_of}

abbrev bit : Bool → ℕ
bit b = if b then 1 else 0

bit_most : (b : Bool) → bit b ≤ 1
bit_most true = omega arith
bit_most false = omega arith

-- whether the end waits
abbrev end_left : Option ℕ → ℕ → ℕ
end_left None n = 0
end_left (Some s) n = bit (nat_le n s)

abbrev is_none_pending : Pending → Bool
is_none_pending Empty = true
is_none_pending p = false

-- how many segments may follow at this instant
abbrev left_opening : ℕ → Connection → ℕ
left_opening now c = bit (is_reset c.pending) + (bit (is_syn_due now c) + bit (is_challenge c.pending))

abbrev left_stream : Connection → ℕ
left_stream c = waiting_octets c + end_left c.transmission.sender.stop c.transmission.nxt

abbrev left_open : ℕ → Connection → ℕ
left_open now c = left_stream c + (bit (not (is_none_pending c.pending)) + bit (tells_something now c))

abbrev left : ℕ → Connection → ℕ
left now c = if is_opening c.state then left_opening now c else left_open now c

left_if_opening : (now : ℕ) (c : Connection) → is_opening c.state ≡ true → left now c ≡ left_opening now c
left_if_opening now c e = ap (λ b. if b then left_opening now c else left_open now c) e

left_if_open : (now : ℕ) (c : Connection) → is_opening c.state ≡ false → left now c ≡ left_open now c
left_if_open now c e = ap (λ b. if b then left_opening now c else left_open now c) e

-- what was told isn't told again
told_all : (e p s t : ℕ) → s ≤ max 1 t → nat_le (p + s) e ≡ false → nat_le (p + max 1 t) e ≡ false
told_all e p s t l f = grind (arith, nat_tests)

told_edge : (e t : ℕ) → nat_le (e + max 1 t) e ≡ false
told_edge e t = grind (arith, nat_tests)

less_step : (m h : ℕ) → min m h ≤ max 1 (min (2 * m) h)
less_step m h = omega arith

abbrev asks_step : ℕ → Reception → ℕ
asks_step own r = min (2 * own) (length r.receiver.cells / 2)

no_update : (own : ℕ) (r : Reception) → nat_le (next_promise own r + max 1 (asks_step own r)) (edge r.receiver) ≡ false
no_update own r =
    either (λ p. nat_le (p + max 1 (asks_step own r)) (edge r.receiver) ≡ false)
    (nat_le (r.promised + window_step own r.receiver) (edge r.receiver)) (edge r.receiver) r.promised
    (λ _. told_edge (edge r.receiver) (asks_step own r))
    (λ f. told_all (edge r.receiver) r.promised (window_step own r.receiver) (asks_step own r)
    (less_step own (length r.receiver.cells / 2)) f)

-- of a piece
piece_fits : (u n m : ℕ) (ring : List ℕ) → length (take m (drop (n - u) ring)) ≤ u + length ring - n
piece_fits u n m ring = omega (arith, length-take m (drop (n - u) ring), length-drop (n - u) ring)

at_end : (s q n : ℕ) → n ≤ q → (s == q) ≡ true → bit (nat_le (q + 1) s) + 1 ≤ bit (nat_le n s)
at_end s q n l e =
    let a : nat_le (q + 1) s ≡ false = grind (arith, nat_tests) in
    let b : nat_le n s ≡ true = grind (arith, nat_tests) in omega (arith, ap bit a, ap bit b)

before_end : (s q n : ℕ) → n ≤ q → bit (nat_le (q + 0) s) + 0 ≤ bit (nat_le n s)
before_end s q n l = by (nat_le n s) refl where
  by : (b : Bool) → nat_le n s ≡ b → bit (nat_le (q + 0) s) + 0 ≤ bit (nat_le n s)
  by true e = omega (arith, ap bit e, bit_most (nat_le (q + 0) s))
  by false e = let a : nat_le (q + 0) s ≡ false = grind (arith, nat_tests) in omega (arith, ap bit a, ap bit e)

ends_once : (o : Option ℕ) (n q : ℕ) → n ≤ q → end_left o (q + bit (is_at o q)) + bit (is_at o q) ≤ end_left o n
ends_once None n q l = omega arith
ends_once (Some s) n q l = by (s == q) refl where
  by : (b : Bool) → (s == q) ≡ b → bit (nat_le (q + bit (s == q)) s) + bit (s == q) ≤ bit (nat_le n s)
  by true e = subst (λ b. bit (nat_le (q + bit b) s) + bit b ≤ bit (nat_le n s)) (sym e) (at_end s q n l e)
  by false e = subst (λ b. bit (nat_le (q + bit b) s) + bit b ≤ bit (nat_le n s)) (sym e) (before_end s q n l)

-- as many octets and ends fewer wait, as it has
fewer_wait : (c : Connection) →
    let p = next_piece c in
    left_stream (piece_sent 0 p (after_piece p) c) + (length p.octets + bit p.ends) ≤ left_stream c
fewer_wait c =
    let p = next_piece c in
    let t = c.transmission in
    let fits = piece_fits t.sender.una t.nxt (min t.mss (limit_of c - t.nxt)) t.sender.ring in
    let ends = ends_once t.sender.stop t.nxt (t.nxt + length p.octets) (omega arith) in omega (arith, fits, ends)

abbrev Down : (now : ℕ) → Connection → Option Action → Type 0
Down now c None = Unit {0}
Down now c (Some m) = left now (after_action now m c) < left now c

not_and_true : (a : Bool) → a && true ≡ false → a ≡ false
not_and_true true h = h
not_and_true false h = refl

no_more : (a b c : Bool) → a || b || c ≡ false → a || false || false ≡ false
no_more true b c e = e
no_more false b c e = refl

module _ (now : ℕ) (c : Connection) where
  -- before the own SYN is acknowledged
  down_syn : is_opening c.state ≡ true → is_syn_due now c ≡ true → Down now c (Some SendSyn)
  down_syn o d =
      let a : left now (syn_sent now c) ≡ 0 = left_if_opening now (syn_sent now c) o in
      let b : left now c ≡ left_opening now c = left_if_opening now c o in omega (arith, a, b, ap bit d)

  down_challenge : is_opening c.state ≡ true → is_syn_due now c ≡ false → is_challenge c.pending ≡ true → Down now c (Some SendAck)
  down_challenge o f e =
      let due : is_syn_due now (told_to_peer c) ≡ false = no_more (c.transmission.nxt == 0) (is_owed c.reception.owed now) (is_repeated_syn c.pending) f in
      omega (arith, left_if_opening now (told_to_peer c) o, left_if_opening now c o, ap bit due, ap bit e)

  syn_if_due : is_opening c.state ≡ true → Down now c (action_in_opening now c)
  syn_if_due o =
      let asks = is_challenge c.pending && not (is_syn_sent c.state) in
      either (Down now c) (is_syn_due now c) (Some SendSyn) (ack_if asks) (λ d. down_syn o d) (λ f.
      either (Down now c) asks (Some SendAck) None
      (λ e. down_challenge o f (first_of_two (is_challenge c.pending) (not (is_syn_sent c.state)) e)) (λ _. tt))

  -- after it
  down_to : (d : Connection) → is_opening c.state ≡ false → is_opening d.state ≡ false → d.pending ≡ Empty → tells_something now d ≡ false →
      left_stream d < left_stream c + (bit (not (is_none_pending c.pending)) + bit (tells_something now c)) → left now d < left now c
  down_to d f g e t l =
      let a = left_if_open now c f in
      let b = left_if_open now d g in omega (arith, a, b, ap (λ p. bit (not (is_none_pending p))) e, ap bit t, l)

  quiet : is_update_due c.settings.own_mss (reception_told c) ≡ false
  quiet = no_update c.settings.own_mss c.reception

  one_pending : (p : Pending) → c.pending ≡ p → bit (not (is_none_pending c.pending)) ≡ bit (not (is_none_pending p))
  one_pending p e = ap (λ p. bit (not (is_none_pending p))) e

  some_octets : (p : Piece) → has_octets p ≡ true → 1 ≤ length p.octets
  some_octets p e = grind (arith, nat_tests)

  worth : (p : Piece) → is_worth_sending c p ≡ true → 1 ≤ length p.octets + bit p.ends
  worth p w = by p.ends refl where
    by : (b : Bool) → p.ends ≡ b → 1 ≤ length p.octets + bit p.ends
    by true e = omega (arith, ap bit e)
    by false e =
        let rest = nat_le c.transmission.mss (length p.octets)
        || (is_last p c.transmission.sender && not (is_held_by_nagle c))
        || nat_le c.transmission.largest_window (2 * length p.octets) || nat_lt p.start c.transmission.sender.top in
        let octets = first_of_two (has_octets p) rest (sym (ap (λ b. b || (has_octets p && rest)) e) ∙ w) in
        omega (arith, some_octets p octets)

  down_next : is_opening c.state ≡ false → 1 ≤ length (next_piece c).octets + bit (next_piece c).ends → Down now c (Some (SendNext (next_piece c)))
  down_next f w =
      let p = next_piece c in
      down_to (piece_sent now p (after_piece p) c) f f refl quiet (omega (arith, fewer_wait c, w))

  down_ack : is_opening c.state ≡ false → 1 ≤ bit (not (is_none_pending c.pending)) + bit (tells_something now c) → Down now c (Some SendAck)
  down_ack f l = down_to (told_to_peer c) f f refl quiet (omega (arith, l))

  down_reset : (number : ℕ) → c.pending ≡ Reset number → (b : Bool) → is_opening c.state ≡ b → Down now c (Some (SendReset number))
  down_reset number e true o =
      let d = record c { pending = Empty } in
      let due : is_syn_due now c ≡ is_syn_due now d = ap (λ p. c.transmission.nxt == 0 || is_owed c.reception.owed now || is_repeated_syn p) e in
      omega (arith, left_if_opening now d o, left_if_opening now c o, ap (λ p. bit (is_reset p)) e, ap (λ p. bit (is_challenge p)) e, ap bit due)
  down_reset number e false o =
      let d = record c { pending = Empty } in
      omega (arith, left_if_open now d o, left_if_open now c o, one_pending (Reset number) e)

  down_open : is_opening c.state ≡ false → (p : Pending) → c.pending ≡ p → Down now c (action_pending p now c)
  down_open f Empty e =
      let w = is_worth_sending c (next_piece c) in
      let t = tells_something now c in
      either (Down now c) (sends_octets c.state && w) (Some (SendNext (next_piece c))) (ack_if (is_synchronized c.state && t))
      (λ h. down_next f (worth (next_piece c) (last_of (sends_octets c.state) w h))) (λ _.
      either (Down now c) (is_synchronized c.state && t) (Some SendAck) None
      (λ h. down_ack f (omega (arith, ap bit (last_of (is_synchronized c.state) t h)))) (λ _. tt))
  down_open f SynAgain e =
      either (Down now c) (is_synchronized c.state) (Some SendAck) None (λ _. down_ack f (omega (arith, one_pending SynAgain e))) (λ _. tt)
  down_open f Challenge e =
      either (Down now c) (is_synchronized c.state) (Some SendAck) None (λ _. down_ack f (omega (arith, one_pending Challenge e))) (λ _. tt)
  down_open f KeepAlive e = down_to (told_to_peer c) f f refl quiet (omega (arith, one_pending KeepAlive e))
  down_open f Probe e =
      let o = has_octets (next_piece c) in
      either (Down now c) (sends_octets c.state && o) (Some (SendNext (next_piece c))) (Some (SendProbe (first_piece 1 c)))
      (λ h. down_next f (omega (arith, some_octets (next_piece c) (last_of (sends_octets c.state) o h))))
      (λ _. down_to (after_action now (SendProbe (first_piece 1 c)) c) f f refl quiet (omega (arith, one_pending Probe e)))
  down_open f Resend e =
      let m = SendAgain (again_piece c) in
      down_to (after_action now m c) f f refl quiet (omega (arith, one_pending Resend e))
  down_open f (Reset number) e = down_reset number e false f

  abbrev Goal : Pending → Type 0
  Goal p =
      Down now c (if is_opening c.state && not (is_reset p) then (action_in_opening now c)
      else action_pending p now c)

  by_opening : (p : Pending) → is_reset p ≡ false → c.pending ≡ p → Goal p
  by_opening p r e =
      either (Down now c) (is_opening c.state && not (is_reset p)) (action_in_opening now c)
      (action_pending p now c) (λ h. syn_if_due (first_of_two (is_opening c.state) (not (is_reset p)) h)) (λ h.
      down_open (not_and_true (is_opening c.state) (sym (ap (λ b. is_opening c.state && not b) r) ∙ h)) p e)

  by_pending : (p : Pending) → c.pending ≡ p → Goal p
  by_pending Empty e = by_opening Empty refl e
  by_pending Challenge e = by_opening Challenge refl e
  by_pending SynAgain e = by_opening SynAgain refl e
  by_pending KeepAlive e = by_opening KeepAlive refl e
  by_pending Probe e = by_opening Probe refl e
  by_pending Resend e = by_opening Resend refl e
  by_pending (Reset number) e =
      either (Down now c) (is_opening c.state && false) (action_in_opening now c) (Some (SendReset number))
      (λ h. false_true (last_of (is_opening c.state) false h)) (λ _. down_reset number e (is_opening c.state) refl)

  down : Down now c (action now c)
  down = by_pending c.pending refl

-- where nothing is offered, nothing changes
idle : (now n : ℕ) (c : Connection) → action now c ≡ None → action now (after_offers now n c) ≡ None
idle now zero c e = e
idle now (suc n) c e =
    subst (λ o. action now (after_offers now n (after_offer now o c)) ≡ None) (sym e) (idle now n c e)

-- each segment makes it less
rests : (now n : ℕ) (c : Connection) → left now c ≤ n → action now (after_offers now n c) ≡ None
rests now zero c l = by (action now c) refl (down now c) where
  by : (o : Option Action) → action now c ≡ o → Down now c o → action now c ≡ None
  by None e d = e
  by (Some m) e d = absurd (omega (arith, l, d))
rests now (suc n) c l = by (action now c) refl (down now c) (λ d k. rests now n d k) where
  by : (o : Option Action) → action now c ≡ o → Down now c o →
      ((d : Connection) → left now d ≤ n → action now (after_offers now n d) ≡ None) → action now (after_offers now n (after_offer now o c)) ≡ None
  by None e d again = idle now n c e
  by (Some m) e d again = again (after_action now m c) (omega (arith, l, d))

end_most : (o : Option ℕ) (n : ℕ) → end_left o n ≤ 1
end_most None n = omega arith
end_most (Some s) n = bit_most (nat_le n s)

bounded : (now : ℕ) (c : Connection) → left now c ≤ waiting_octets c + 3
bounded now c = by (is_opening c.state) refl where
  by : (b : Bool) → is_opening c.state ≡ b → left now c ≤ waiting_octets c + 3
  by true o =
      omega (arith, left_if_opening now c o, bit_most (is_reset c.pending), bit_most (is_syn_due now c), bit_most (is_challenge c.pending))
  by false f =
      let s = c.transmission.sender in
      omega (
        arith,
        left_if_open now c f,
        end_most s.stop c.transmission.nxt,
        bit_most (not (is_none_pending c.pending)),
        bit_most (tells_something now c),
      )

pub nothing_spins : NothingSpins
nothing_spins now c = rests now (waiting_octets c + 3) c (bounded now c)
