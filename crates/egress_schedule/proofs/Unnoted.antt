-- What isn't written down stays so, and where nothing is, idle sockets are passed over.
use Rattle.std.specs.Prelude.{ℕ, zero, suc, ◌≡◌, ◌≢◌, ◌+◌, ◌<◌, ◌≤◌, ◌||◌, Bool, true, false, ℤ, List, [], ◌∷◌, length, replicate}
use Rattle.std.specs.Prelude.{Option, Some, None, IfSome, get_or, slice_set, refl}
use Rattle.std.specs.Option.{option_and_then}
use Rattle.std.proofs.Common.{sym, ap, ◌∙◌, arith, subst, add-one}
use Rattle.std.specs.Prelude.{nat_le, nat_lt}
use Rattle.std.proofs.lemmas.List.{length-set}
use Rattle.std.proofs.lemmas.Option.{slice_get_past}
use Rattle.std.proofs.lemmas.Bool.Decides.{nat_tests}
use Rattle.std.proofs.lemmas.List.{get_or-set_other}
use Rattle.sockets.specs.Kinds.{poll_at}
use Rattle.sockets.specs.declared.poll_at.PollAt.TheVariants.{Ingress}
use Rattle.sockets.specs.declared.socket.SocketOf.{SocketOf}
use Rattle.socket_set.specs.Details.Busy.{IsIdle}
use Rattle.socket_set.specs.SocketMeta.{Wait}
use Rattle.socket_set.specs.SocketSet.{Sockets, socket_at, wait_at, wait_of}
use Rattle.egress_schedule.specs.declared.watch.Watch.{Watch}
use Rattle.egress_schedule.specs.Plan.{Plan, Planned, each_of, idle, planned, watch_at}
use Rattle.egress_schedule.specs.Patience.{IsUnnoted, NoneIsNoted, after_look_at, plan_after_look}
use Rattle.egress_schedule.proofs.Unchanged.{unchanged}

pub idle_unnoted : IsUnnoted idle
idle_unnoted = record { waiting = refl; unreachable = refl }

-- nothing is written down of sockets in the beginning
pub first_unnoted : (n : ℕ) → NoneIsNoted (replicate n idle)
first_unnoted zero i = idle_unnoted
first_unnoted (suc n) zero = idle_unnoted
first_unnoted (suc n) (suc i) = first_unnoted n i

-- nor afterwards, if nothing is
pub set_unnoted : (ws : List Watch) (i : ℕ) (w : Watch) → NoneIsNoted ws → IsUnnoted w → NoneIsNoted (slice_set ws i w)
set_unnoted [] i w none this k = idle_unnoted
set_unnoted (x ∷ ws) zero w none this zero = this
set_unnoted (x ∷ ws) zero w none this (suc k) = none (suc k)
set_unnoted (x ∷ ws) (suc i) w none this zero = none zero
set_unnoted (x ∷ ws) (suc i) w none this (suc k) = set_unnoted ws i w (λ j. none (suc j)) this k

-- one flag for what is there and for one more
pub neither : (a b c : Bool) → c ≡ (a || b) → c ≡ false → (a ≡ false) × (b ≡ false)
neither true b c is off = absurd cc
neither false b c is off = (refl, sym is ∙ off)

-- behind the last one nothing is written down
pub all_below : (ws : List Watch) (n : ℕ) → length ws ≤ n → ((i : ℕ) → i < n → IsUnnoted (get_or ws i idle)) → NoneIsNoted ws
all_below [] n long below i = idle_unnoted
all_below (w ∷ ws) zero long below i = absurd (omega (arith, long))
all_below (w ∷ ws) (suc n) long below zero = below zero (omega arith)
all_below (w ∷ ws) (suc n) long below (suc i) = all_below ws n (omega (arith, long)) (λ j h. below (suc j) (omega (arith, h))) i

-- what is written down of the others stays
pub others_stay : (now : ℤ) (i k : ℕ) (wait : Wait) (plan : Plan) → k ≢ i →
    get_or (plan_after_look now i wait plan).watches k idle ≡ get_or plan.watches k idle
others_stay now i k wait plan other = get_or-set_other plan.watches i k _ idle other

-- of the sockets up to one nothing is written down, if nothing was of those before it, and nothing is of it
pub none_below : (now : ℤ) (n : ℕ) (wait : Wait) (old : Plan) (ws : List Watch) → ws ≡ (plan_after_look now n wait old).watches →
    ((i : ℕ) → i < n → IsUnnoted (get_or old.watches i idle)) → IsUnnoted (get_or ws n idle) →
    (i : ℕ) → i < n + 1 → IsUnnoted (get_or ws i idle)
none_below now n wait old ws is below it i within =
    elim (nat_lt i n) as (λ t. nat_lt i n ≡ t → IsUnnoted (get_or ws i idle)) [
      | true ↦ λ t. let less : i < n = grind (arith, nat_tests) in
          let other : i ≢ n = λ same. absurd (omega (arith, less, same)) in
          subst IsUnnoted (sym (ap (λ (xs : List Watch). get_or xs i idle) is ∙ others_stay now n i wait old other)) (below i less)
      | false ↦ λ t. let same : n ≡ i = grind (arith, nat_tests) in
          subst (λ (k : ℕ). IsUnnoted (get_or ws k idle)) same it
    ] refl

-- nor of those behind one, if nothing was
pub none_behind : (now : ℤ) (n : ℕ) (wait : Wait) (old : Plan) (ws : List Watch) → ws ≡ (plan_after_look now n wait old).watches →
    ((k : ℕ) → n ≤ k → IsUnnoted (get_or old.watches k idle)) → (k : ℕ) → n < k → IsUnnoted (get_or ws k idle)
none_behind now n wait old ws is behind k more =
    let other : k ≢ n = λ same. absurd (omega (arith, more, same)) in
    subst IsUnnoted (sym (ap (λ (xs : List Watch). get_or xs k idle) is ∙ others_stay now n k wait old other)) (behind k (omega (arith, more)))

pub same_length : (now : ℤ) (n : ℕ) (wait : Wait) (plan : Plan) → length (plan_after_look now n wait plan).watches ≡ length plan.watches
same_length now n wait plan = length-set plan.watches n _

-- one step more
pub one_more : {A : Type 0} (step : ℕ → A → A) (n : ℕ) (first a b : A) → b ≡ step n a → a ≡ each_of step n first → b ≡ each_of step (n + 1) first
one_more step n first a b e f = rw add-one (e ∙ ap (step n) f)

-- steps that change nothing are passed over
pub passed : {A : Type 0} (step : ℕ → A → A) (first last : A) (a b : ℕ) → a ≤ b → each_of step a first ≡ last →
    ((i : ℕ) → a ≤ i → i < b → step i last ≡ last) → each_of step b first ≡ last
passed step first last a zero le so_far idle_steps =
    let none : a ≡ zero = omega (arith, le) in subst (λ (n : ℕ). each_of step n first ≡ last) none so_far
passed step first last a (suc b) le so_far idle_steps =
    elim (nat_le a b) as (λ t. nat_le a b ≡ t → each_of step (suc b) first ≡ last) [
      | true ↦ λ t. let below : a ≤ b = grind (arith, nat_tests) in
          ap (step b) (passed step first last a b below so_far (λ i h k. idle_steps i h (omega (arith, k)))) ∙ idle_steps b below (omega arith)
      | false ↦ λ t. let same : a ≡ suc b = grind (arith, nat_tests) in subst (λ (n : ℕ). each_of step n first ≡ last) same so_far
    ] refl

module _ {L : Type 0} where
  idle_wait : (s : Sockets L) (i : ℕ) (socket : Option (SocketOf L)) → socket_at s i ≡ socket →
      IfSome socket (λ it. (poll_at it ≡ Ingress) × (wait_at s i ≡ None)) → option_and_then (λ it. wait_at s i) socket ≡ None
  idle_wait s i None is at = refl
  idle_wait s i (Some socket) is at = at.1

  -- an idle socket doesn't wait
  pub waits_not : (s : Sockets L) (i : ℕ) → IsIdle s i → wait_of s i ≡ None
  waits_not s i at = idle_wait s i (socket_at s i) refl at

  -- nor one that isn't there
  pub nobody_waits : (s : Sockets L) (i : ℕ) → length s.places ≤ i → wait_of s i ≡ None
  nobody_waits s i behind = ap (λ (place : Option (Option (SocketOf L))). option_and_then (λ it. wait_at s i) (option_and_then (λ it. it) place))
      (slice_get_past s.places i behind)

  -- a look at a socket that doesn't wait, and of which nothing is written down
  pub look_idle : (now : ℤ) (i : ℕ) (r : Planned L) → wait_of r.sockets i ≡ None → IsUnnoted (watch_at i r) → after_look_at now i r ≡ r
  look_idle now i r none unnoted = ap (λ (plan : Plan). record r { plan = plan })
      (ap (λ (w : Wait). plan_after_look now i w r.plan) none ∙ unchanged now i r.plan unnoted)

  -- sockets that don't wait, and of which nothing is written down, are passed over
  pub skip : (now : ℤ) (s : Sockets L) (first plan : Plan) (a b : ℕ) → a ≤ b →
      planned plan s ≡ each_of (after_look_at now) a (planned first s) →
      ((i : ℕ) → a ≤ i → i < b → IsUnnoted (get_or plan.watches i idle)) → ((i : ℕ) → a ≤ i → i < b → wait_of s i ≡ None) →
      planned plan s ≡ each_of (after_look_at now) b (planned first s)
  skip now s first plan a b le so_far unnoted none =
      sym (passed (after_look_at now) (planned first s) (planned plan s) a b le (sym so_far)
      (λ i h k. look_idle now i (planned plan s) (none i h k) (unnoted i h k)))
