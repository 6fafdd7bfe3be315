-- What is sent lies in the window that was told.
use Rattle.std.proofs.Common.{◌<◌, ◌≤◌, ◌+◌, ◌-◌, ℕ, Bool, true, false, List, length, take, drop}
use Rattle.std.proofs.Common.{subst, arith, Option, Some, None}
use Rattle.std.specs.Prelude.{◌&&◌, not, min, max, if◌then◌else◌}
use Rattle.std.proofs.lemmas.List.{length-take}
use Rattle.tcp_machine.specs.declared.timers.Pending.{Pending}
use Rattle.tcp_machine.specs.declared.timers.Pending.TheVariants.{Empty, Challenge, Resend, Probe, KeepAlive, Reset, SynAgain}
use Rattle.tcp_machine.specs.Pieces.{after_octets}
use Rattle.tcp_machine.specs.States.{is_opening, is_synchronized, sends_octets}
use Rattle.tcp_machine.specs.Scoreboard.{above, start_of}
use Rattle.tcp_machine.specs.Connection.{Connection}
use Rattle.tcp_machine.specs.Outgoing.{Action, SendReset, SendSyn, SendNext, SendAgain, SendProbe, SendKeepAlive, SendAck, action_in_opening, is_challenge, is_syn_sent}
use Rattle.tcp_machine.specs.Outgoing.{beyond_window_of, limit_of, next_piece, first_piece, again_from, again_to, again_piece, most_again, has_octets, is_worth_sending, ack_if, tells_something}
use Rattle.tcp_machine.specs.Outgoing.{action_pending, is_reset, is_syn_due, action}
use Rattle.tcp_laws.specs.Edges.{NothingBeyondTheWindow}
use Rattle.tcp_laws.proofs.MachineArrivals.{either}

pub below : (x l m k told : ℕ) → l ≤ min m (k - x) → k ≤ told → 0 < l → x + l ≤ told
below x l m k told h n some = grind (arith, h, n, some)

limit_below : (told w : ℕ) (b : Bool) → (if b then min told w else told) ≤ told
limit_below told w true = grind arith
limit_below told w false = omega arith

least_below : (a b : ℕ) → min a b ≤ a
least_below a b = grind arith

pub taken : (n : ℕ) (xs : List ℕ) → length (take n xs) ≤ n
taken n xs = let l = length-take n xs in grind (arith, l)

module _ (now : ℕ) (c : Connection) where
  abbrev Within : Option Action → Type 0
  Within None = Unit {0}
  Within (Some (SendReset number)) = Unit {0}
  Within (Some SendSyn) = Unit {0}
  Within (Some (SendNext p)) = 0 < length p.octets → after_octets p ≤ c.transmission.told_edge
  Within (Some (SendAgain p)) = 0 < length p.octets → after_octets p ≤ max c.transmission.sender.top c.transmission.told_edge
  Within (Some (SendProbe p)) = length p.octets ≤ 1
  Within (Some SendKeepAlive) = Unit {0}
  Within (Some SendAck) = Unit {0}

  within_ack : (b : Bool) → Within (ack_if b)
  within_ack true = tt
  within_ack false = tt

  within_next : Within (Some (SendNext (next_piece c)))
  within_next some =
      let t = c.transmission in
      let xs = drop (t.nxt - t.sender.una) t.sender.ring in
      let l = taken (min t.mss (limit_of c - t.nxt)) xs in
      below t.nxt (length (next_piece c).octets) t.mss (limit_of c) t.told_edge l
      (limit_below t.told_edge (t.sender.una + (c.congestion.window + beyond_window_of c)) c.settings.congestion_control) some

  within_again : Within (Some (SendAgain (again_piece c)))
  within_again some =
      let t = c.transmission in
      let xs = drop (again_from c - t.sender.una) t.sender.ring in
      let l = taken (most_again c) xs in
      let end = max t.sender.top t.told_edge in
      below (again_from c) (length (again_piece c).octets) t.mss (again_to c) end l
      (least_below end (start_of end (above (again_from c) t.told))) some

  within_probe : Within (Some (SendProbe (first_piece 1 c)))
  within_probe = taken 1 (drop (c.transmission.sender.una - c.transmission.sender.una) c.transmission.sender.ring)

  within_pending : (p : Pending) → Within (action_pending p now c)
  within_pending Empty =
      either Within (sends_octets c.state && is_worth_sending c (next_piece c)) (Some (SendNext (next_piece c)))
      (ack_if (is_synchronized c.state && tells_something now c)) (λ _. within_next)
      (λ _. within_ack (is_synchronized c.state && tells_something now c))
  within_pending Challenge = within_ack (is_synchronized c.state)
  within_pending SynAgain = within_ack (is_synchronized c.state)
  within_pending KeepAlive = tt
  within_pending Probe =
      either Within (sends_octets c.state && has_octets (next_piece c)) (Some (SendNext (next_piece c)))
      (Some (SendProbe (first_piece 1 c))) (λ _. within_next) (λ _. within_probe)
  within_pending Resend = within_again
  within_pending (Reset number) = tt

  within : Within (action now c)
  within =
      either Within (is_opening c.state && not (is_reset c.pending)) (action_in_opening now c)
      (action_pending c.pending now c) (λ _.
      either Within (is_syn_due now c) (Some SendSyn) (ack_if (is_challenge c.pending && not (is_syn_sent c.state))) (λ _. tt)
      (λ _. within_ack (is_challenge c.pending && not (is_syn_sent c.state))))
      (λ _. within_pending c.pending)

pub nothing_beyond_the_window : NothingBeyondTheWindow
nothing_beyond_the_window now c = record {
  next = λ p e. subst (Within now c) e (within now c);
  again = λ p e. subst (Within now c) e (within now c);
  probe = λ p e. subst (Within now c) e (within now c);
}
