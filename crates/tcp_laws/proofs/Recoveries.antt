-- What is sent again in a recovery that blocks guide, and how much is on its way.
use Rattle.std.proofs.Common.{◌≡◌, ◌<◌, ◌≤◌, ◌+◌, ◌-◌, ℕ, Bool, true, false, length, take, drop}
use Rattle.std.proofs.Common.{sym, ap, ◌∙◌, subst, refl, arith, Option, Some, None}
use Rattle.std.specs.Prelude.{◌&&◌, not, min, max, if◌then◌else◌}
use Rattle.tcp_machine.specs.declared.timers.Pending.{Pending}
use Rattle.tcp_machine.specs.declared.timers.Pending.TheVariants.{Empty, Challenge, Resend, Probe, KeepAlive, Reset, SynAgain}
use Rattle.tcp_machine.specs.Pieces.{Piece, after_octets, after_piece}
use Rattle.tcp_machine.specs.Scoreboard.{is_empty, hole_from, told_between}
use Rattle.tcp_machine.specs.States.{is_opening, is_synchronized, sends_octets}
use Rattle.tcp_machine.specs.Congestion.{beyond_window}
use Rattle.tcp_machine.specs.Connection.{Connection}
use Rattle.tcp_machine.specs.Acknowledgements.{next_hole, is_hole_lost, octets_told}
use Rattle.tcp_machine.specs.Outgoing.{Action, SendReset, SendSyn, SendNext, SendAgain, SendProbe, SendKeepAlive, SendAck, action_in_opening, is_challenge, is_syn_sent}
use Rattle.tcp_machine.specs.Outgoing.{beyond_window_of, limit_of, next_piece, first_piece, again_from, again_piece, has_octets, is_worth_sending, ack_if, tells_something}
use Rattle.tcp_machine.specs.Outgoing.{action_pending, is_reset, is_syn_due, action, after_action}
use Rattle.tcp_laws.specs.Recovery.{owing, NothingGoesTwice, NothingBeyondWhatIsTold}
use Rattle.tcp_laws.proofs.Holes.{hole_above}
use Rattle.tcp_laws.proofs.MachineArrivals.{either}
use Rattle.tcp_laws.proofs.Within.{taken, below}

-- which pieces are sent next and again
module _ (now : ℕ) (c : Connection) where
  abbrev Chosen : Option Action → Type 0
  Chosen None = Unit {0}
  Chosen (Some (SendReset number)) = Unit {0}
  Chosen (Some SendSyn) = Unit {0}
  Chosen (Some (SendNext p)) = p ≡ next_piece c
  Chosen (Some (SendAgain p)) = p ≡ again_piece c
  Chosen (Some (SendProbe p)) = Unit {0}
  Chosen (Some SendKeepAlive) = Unit {0}
  Chosen (Some SendAck) = Unit {0}

  chosen_ack : (b : Bool) → Chosen (ack_if b)
  chosen_ack true = tt
  chosen_ack false = tt

  chosen_pending : (p : Pending) → Chosen (action_pending p now c)
  chosen_pending Empty =
      either Chosen (sends_octets c.state && is_worth_sending c (next_piece c)) (Some (SendNext (next_piece c)))
      (ack_if (is_synchronized c.state && tells_something now c)) (λ _. refl)
      (λ _. chosen_ack (is_synchronized c.state && tells_something now c))
  chosen_pending Challenge = chosen_ack (is_synchronized c.state)
  chosen_pending SynAgain = chosen_ack (is_synchronized c.state)
  chosen_pending KeepAlive = tt
  chosen_pending Probe =
      either Chosen (sends_octets c.state && has_octets (next_piece c)) (Some (SendNext (next_piece c)))
      (Some (SendProbe (first_piece 1 c))) (λ _. refl) (λ _. tt)
  chosen_pending Resend = refl
  chosen_pending (Reset number) = tt

  chosen : Chosen (action now c)
  chosen =
      either Chosen (is_opening c.state && not (is_reset c.pending)) (action_in_opening now c)
      (action_pending c.pending now c) (λ _.
      either Chosen (is_syn_due now c) (Some SendSyn) (ack_if (is_challenge c.pending && not (is_syn_sent c.state))) (λ _. tt)
      (λ _. chosen_ack (is_challenge c.pending && not (is_syn_sent c.state))))
      (λ _. chosen_pending c.pending)

  again_is : (p : Piece) → action now c ≡ Some (SendAgain p) → p ≡ again_piece c
  again_is p e = subst Chosen e chosen

  next_is : (p : Piece) → action now c ≡ Some (SendNext p) → p ≡ next_piece c
  next_is p e = subst Chosen e chosen

-- the next hole lies behind what was sent again
ends_later : (p : Piece) → after_octets p ≤ after_piece p
ends_later p = by p.ends where
  by : (b : Bool) → after_octets p ≤ after_octets p + (if b then 1 else 0)
  by true = omega arith
  by false = omega arith

behind : (x y t u h : ℕ) → x ≤ y → max u x ≤ h → x ≤ min (max t y) h
behind x y t u h l k = grind (arith, l, k)

pub nothing_goes_twice : NothingGoesTwice
nothing_goes_twice now t c p q permitted recovering first second =
    let d = owing (after_action now (SendAgain p) c) in
    let u = c.transmission.sender.una in
    let e = after_octets p in
    let start : q.start ≡ again_from d = ap (λ (x : Piece). x.start) (again_is t d q second) in
    let hole : again_from d ≡ next_hole d.transmission =
    ap (λ (b : Bool). if b then next_hole d.transmission else u) recovering in
    let resent : d.transmission.resent ≡ e = ap (λ (b : Bool). if b then e else c.transmission.resent) permitted in
    let told = c.transmission.told in
    let top = max c.transmission.sender.top (after_piece p) in
    let is : next_hole d.transmission ≡ min top (hole_from (max u e) told) = ap (λ (r : ℕ). min top (hole_from (max u r) told)) resent in
    let low = behind e (after_piece p) c.transmission.sender.top u (hole_from (max u e) told) (ends_later p) (hole_above (max u e) told) in
    subst (λ (n : ℕ). e ≤ n) (sym (start ∙ hole ∙ is)) low

-- what may be sent beyond the window
beyond_told : (b : Bool) (n : ℕ) → (if b then 0 else n) ≤ n
beyond_told true n = omega arith
beyond_told false n = omega arith

in_limit : (told u w b n : ℕ) → b ≤ n → min told (u + (w + b)) ≤ u + (w + n)
in_limit told u w b n h = grind (arith, h)

pub nothing_beyond_what_is_told : NothingBeyondWhatIsTold
nothing_beyond_what_is_told now c p control some sends octets =
    let t = c.transmission in
    let is = next_is now c p sends in
    let n = told_between t.sender.una t.nxt t.told in
    let b = c.congestion.is_recovering && is_hole_lost t in
    let beyond : beyond_window_of c ≡ (if b then 0 else n) =
    ap (λ (x : Bool). if x then beyond_window t.mss c.congestion else (if b then 0 else n)) some in
    let bound = subst (λ (m : ℕ). m ≤ n) (sym beyond) (beyond_told b n) in
    let limit : limit_of c ≡ min t.told_edge (t.sender.una + (c.congestion.window + beyond_window_of c)) =
    ap (λ (x : Bool). if x then min t.told_edge (t.sender.una + (c.congestion.window + beyond_window_of c)) else t.told_edge) control in
    let most = subst (λ (m : ℕ). m ≤ t.sender.una + (c.congestion.window + n)) (sym limit)
    (in_limit t.told_edge t.sender.una c.congestion.window (beyond_window_of c) n bound) in
    let l = taken (min t.mss (limit_of c - t.nxt)) (drop (t.nxt - t.sender.una) t.sender.ring) in
    let long : 0 < length (next_piece c).octets = subst (λ (x : Piece). 0 < length x.octets) is octets in
    subst (λ (x : Piece). after_octets x ≤ t.sender.una + (c.congestion.window + n)) (sym is)
    (below t.nxt (length (next_piece c).octets) t.mss (limit_of c) (t.sender.una + (c.congestion.window + n)) l most long)
