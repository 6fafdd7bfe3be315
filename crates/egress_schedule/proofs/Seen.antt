-- What is known of one socket, and what steps for others leave of it.
use Rattle.std.specs.Prelude.{ℕ, zero, suc, ◌≡◌, ◌≢◌, ◌<◌, ◌≤◌, ◌⊎◌, ◌&&◌, ◌||◌, not, Bool, true, false, is_some}
use Rattle.std.specs.Prelude.{ℤ, List, [], ◌∷◌, length, get_or, slice_get, slice_set, Option, Some, None, refl, if◌then◌else◌}
use Rattle.std.specs.Borrow.{Bor}
use Rattle.std.specs.Option.{option_and_then, option_map}
use Rattle.std.proofs.Common.{inl, inr, sym, ap, ◌∙◌, subst, arith}
use Rattle.std.proofs.lemmas.Bool.{cases_eq}
use Rattle.ip_address.specs.declared.ip.IpAddress.{IpAddress}
use Rattle.sockets.specs.declared.socket.SocketOf.{SocketOf}
use Rattle.socket_set.specs.SocketMeta.{Wait}
use Rattle.socket_set.specs.SocketSet.{Sockets, socket_at, wait_at, wait_of, with_place, with_wait}
use Rattle.egress_schedule.specs.declared.watch.Waiting.{Waiting}
use Rattle.egress_schedule.specs.declared.watch.Watch.{Watch}
use Rattle.egress_schedule.specs.Passing.{after_bringing, after_bringing_at, after_passing, after_passing_at, goes_first, if_brought}
use Rattle.egress_schedule.specs.Passing.{may_pass, with_first_for, with_front_of, with_pass}
use Rattle.egress_schedule.specs.Plan.{Planned, each_of, idle, waiting_at, watch_at, with_watch}
use Rattle.egress_schedule.specs.Rounds.{with_packets_brought, with_packets_passing}
use Rattle.egress_schedule.proofs.Ends.{here_set, len_set, other_get, other_set}
use Rattle.egress_schedule.proofs.Passes.{placed}

abbrev L : Type 0
L = Bor (Unit {0})

-- what is known of the socket at an index, and how long the lists are
pub record Seen : Type 0 where
  pub watch : Watch
  pub wait : Wait
  pub socket : Option (SocketOf L)
  pub watches : ℕ
  pub waits : ℕ
  pub may_have_long : Bool
  pub patience : ℕ

abbrev pub seen : ℕ → Planned L → Seen
seen i r = record {
  watch = watch_at i r;
  wait = wait_at r.sockets i;
  socket = socket_at r.sockets i;
  watches = length r.plan.watches;
  waits = length r.sockets.waits;
  may_have_long = r.plan.may_have_long;
  patience = r.plan.patience;
}

abbrev pub wait_in : Seen → Wait
wait_in x = option_and_then (λ it. x.wait) x.socket

-- a change at another index isn't seen
pub change : (i j : ℕ) (r : Planned L) (w : Watch) (wait : Wait) → i ≢ j →
    seen i (record { plan = with_watch j w r.plan; sockets = with_wait r.sockets j wait }) ≡ seen i r
change i j r w wait other =
    rw (
      other_set r.plan.watches j i w idle other,
      other_set r.sockets.waits j i wait None other,
      len_set r.plan.watches j w,
      len_set r.sockets.waits j wait,
    ) refl

pub change_watch : (i j : ℕ) (r : Planned L) (w : Watch) → i ≢ j → seen i (record r { plan = with_watch j w r.plan }) ≡ seen i r
change_watch i j r w other = rw (other_set r.plan.watches j i w idle other, len_set r.plan.watches j w) refl

-- what holds of an index before its step, and what after it
pub fold_seen : (P Q : Seen → Type 0) (step : ℕ → Planned L → Planned L) (i : ℕ) →
    ((j : ℕ) (r : Planned L) → i ≢ j → seen i (step j r) ≡ seen i r) → ((r : Planned L) → P (seen i r) → Q (seen i (step i r))) →
    (n : ℕ) (r : Planned L) → P (seen i r) → (n ≤ i → P (seen i (each_of step n r))) × (i < n → Q (seen i (each_of step n r)))
fold_seen P Q step i leaves here zero r holds = (λ h. holds, λ h. absurd (omega (arith, h)))
fold_seen P Q step i leaves here (suc m) r holds = (
  first (fold_seen P Q step i leaves here m r holds),
  second (fold_seen P Q step i leaves here m r holds),
) where
  mid : Planned L
  mid = each_of step m r

  first : (m ≤ i → P (seen i mid)) × (i < m → Q (seen i mid)) → suc m ≤ i → P (seen i (step m mid))
  first before h = subst P (sym (leaves m mid (λ same. absurd (omega (arith, same, h))))) (before.0 (omega (arith, h)))

  second : (m ≤ i → P (seen i mid)) × (i < m → Q (seen i mid)) → i < suc m → Q (seen i (step m mid))
  second before h = by (cases_eq i m) where
    by : ((i ≡ m) ⊎ (i ≡ m → ⊥)) → Q (seen i (step m mid))
    by (inl same) = subst (λ (k : ℕ). Q (seen i (step k mid))) same (here mid (before.0 (omega (arith, same))))
    by (inr other) = subst Q (sym (leaves m mid other)) (before.1 (omega (arith, h, other)))

-- where a packet comes forward, and where one passes
abbrev pub waiting_in : Seen → Option Waiting
waiting_in x = if is_some (wait_in x) then x.watch.waiting else None

abbrev pub if_some_waits : (IpAddress → Bool) → ℤ → Seen → Option Waiting → Seen
if_some_waits known now x None = x
if_some_waits known now x (Some w) = record x { socket = option_map (with_first_for (goes_first known now w)) x.socket }

abbrev pub brought_in : (IpAddress → Bool) → ℤ → Seen → Seen
brought_in known now x = if_some_waits known now x (waiting_in x)

abbrev pub passed_in : (IpAddress → Bool) → ℤ → Seen → Seen
passed_in known now x =
    if may_pass known now x.socket (wait_in x)
    then record x { watch = record x.watch { set_aside = Some (wait_in x) }; wait = None }
    else x

module _ (known : IpAddress → Bool) (now : ℤ) where
  bring_leaves : (i j : ℕ) (r : Planned L) → i ≢ j → seen i (after_bringing_at known now j r) ≡ seen i r
  bring_leaves i j r other = by (waiting_at j r) where
    by : (o : Option Waiting) → seen i (if_brought known now j r o) ≡ seen i r
    by None = refl
    by (Some w) = two (socket_at r.sockets j) where
      two : (o : Option (SocketOf L)) → seen i (record r { sockets = with_front_of (goes_first known now w) j r.sockets o }) ≡ seen i r
      two None = refl
      two (Some s) = rw (other_get r.sockets.places j i (Some (with_first_for (goes_first known now w) s)) other) refl

  bring_here : (i : ℕ) (r : Planned L) → seen i (after_bringing_at known now i r) ≡ brought_in known now (seen i r)
  bring_here i r = by (waiting_at i r) where
    by : (o : Option Waiting) → seen i (if_brought known now i r o) ≡ if_some_waits known now (seen i r) o
    by None = refl
    by (Some w) = two (socket_at r.sockets i) refl where
      two : (o : Option (SocketOf L)) → socket_at r.sockets i ≡ o →
          seen i (record r { sockets = with_front_of (goes_first known now w) i r.sockets o })
          ≡ record (seen i r) { socket = option_map (with_first_for (goes_first known now w)) o }
      two None is = ap (λ (o : Option (SocketOf L)). record (seen i r) { socket = o }) is
      two (Some s) is = ap (λ (o : Option (SocketOf L)). record (seen i r) { socket = o })
          (placed r.sockets i s (with_first_for (goes_first known now w) s) is)

  pub brought_seen : (i : ℕ) (r : Planned L) → r.plan.is_waiting ≡ true → i < length r.plan.watches →
      seen i (with_packets_brought known now r) ≡ brought_in known now (seen i r)
  brought_seen i r waits there = subst (λ (b : Bool). seen i (if b then after_bringing known now r else r) ≡ brought_in known now (seen i r)) (sym waits)
      ((fold_seen (λ x. x ≡ seen i r) (λ x. x ≡ brought_in known now (seen i r)) (after_bringing_at known now) i (bring_leaves i)
      (λ s is. bring_here i s ∙ ap (brought_in known now) is) (length r.plan.watches) r refl).1 there)

  pass_leaves : (i j : ℕ) (r : Planned L) → i ≢ j → seen i (after_passing_at known now j r) ≡ seen i r
  pass_leaves i j r other = by (may_pass known now (socket_at r.sockets j) (wait_of r.sockets j)) where
    by : (b : Bool) → seen i (if b then with_pass j r else r) ≡ seen i r
    by false = refl
    by true = change i j r _ None other

  pass_here : (i : ℕ) (r : Planned L) → i < length r.plan.watches → i < length r.sockets.waits →
      seen i (after_passing_at known now i r) ≡ passed_in known now (seen i r)
  pass_here i r there has_wait = by (may_pass known now (socket_at r.sockets i) (wait_of r.sockets i)) where
    new : Watch
    new = record (watch_at i r) { set_aside = Some (wait_of r.sockets i) }

    by : (b : Bool) → seen i (if b then with_pass i r else r) ≡
        (if b then record (seen i r) { watch = record (watch_at i r) { set_aside = Some (wait_in (seen i r)) }; wait = None } else seen i r)
    by false = refl
    by true = rw (
      here_set r.plan.watches i new idle there,
      here_set r.sockets.waits i None None has_wait,
      len_set r.plan.watches i new,
      len_set r.sockets.waits i None,
    ) refl

  pub passed_seen : (i : ℕ) (r : Planned L) → r.plan.is_waiting ≡ true → i < length r.plan.watches → i < length r.sockets.waits →
      seen i (with_packets_passing known now r) ≡ passed_in known now (seen i r)
  passed_seen i r waits there has_wait =
      subst (λ (b : Bool). seen i (if b then after_passing known now r else r) ≡ passed_in known now (seen i r)) (sym waits)
      ((fold_seen (λ x. x ≡ seen i r) (λ x. x ≡ passed_in known now (seen i r)) (after_passing_at known now) i (pass_leaves i)
      (λ s is. pass_here i s (subst (λ (x : Seen). i < x.watches) (sym is) there) (subst (λ (x : Seen). i < x.waits) (sym is) has_wait)
      ∙ ap (passed_in known now) is) (length r.plan.watches) r refl).1 there)
