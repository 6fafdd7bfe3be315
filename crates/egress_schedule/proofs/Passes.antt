-- What is done so that packets pass leaves of a socket.
use Rattle.std.specs.Prelude.{ℕ, zero, suc, ◌≡◌, ◌≢◌, ◌<◌, ◌≤◌, ◌⊎◌, ◌&&◌, not, Bool, true, false, is_some}
use Rattle.std.specs.Prelude.{ℤ, List, [], ◌∷◌, length, get_or, slice_get, slice_set, Option, Some, None, IfSome, refl, if◌then◌else◌}
use Rattle.std.specs.Option.{option_and_then}
use Rattle.std.proofs.Common.{inl, inr, sym, ap, ◌∙◌, subst, arith}
use Rattle.std.proofs.lemmas.Bool.{cases_eq, eq-eqb}
use Rattle.ip_address.specs.declared.ip.IpAddress.{IpAddress}
use Rattle.sockets.specs.declared.socket.SocketOf.{SocketOf}
use Rattle.socket_set.specs.SocketMeta.{Wait}
use Rattle.socket_set.specs.SocketSet.{Sockets, socket_at, wait_of, with_place}
use Rattle.egress_schedule.specs.declared.watch.Waiting.{Waiting}
use Rattle.egress_schedule.specs.Asides.{nobody}
use Rattle.egress_schedule.specs.Passing.{after_bringing, after_bringing_at, after_passing, after_passing_at, goes_first, if_brought}
use Rattle.egress_schedule.specs.Passing.{may_pass, with_first_for, with_front_of, with_pass}
use Rattle.egress_schedule.specs.Plan.{Plan, Planned, each_of, waiting_at}
use Rattle.egress_schedule.specs.Rounds.{with_packets_brought, with_packets_passing}
use Rattle.egress_schedule.proofs.Ends.{kept, other_set}

get_set : {A : Type 0} (xs : List A) (i : ℕ) (x y : A) → slice_get xs i ≡ Some y → slice_get (slice_set xs i x) i ≡ Some x
get_set [] i x y is = absurd cc
get_set (z ∷ zs) zero x y is = refl
get_set (z ∷ zs) (suc i) x y is = get_set zs i x y is

module _ {L : Type 0} where
  -- a socket in place of another
  pub placed : (s : Sockets L) (i : ℕ) (old new : SocketOf L) → socket_at s i ≡ Some old → socket_at (with_place s i (Some new)) i ≡ Some new
  placed s i old new is = by (slice_get s.places i) refl is where
    by : (o : Option (Option (SocketOf L))) → slice_get s.places i ≡ o → option_and_then (λ place. place) o ≡ Some old →
        socket_at (with_place s i (Some new)) i ≡ Some new
    by None at it = absurd cc
    by (Some y) at it = ap (option_and_then (λ place. place)) (get_set s.places i (Some new) y at)

  -- a socket that waits for nobody doesn't pass
  pub nobody_stays : (known : IpAddress → Bool) (now end : ℤ) (socket : Option (SocketOf L)) (wait : Wait) → wait ≡ Some (nobody, end) →
      may_pass known now socket wait ≡ false
  nobody_stays known now end socket wait is = rw is refl

  module _ (known : IpAddress → Bool) (now : ℤ) where
    -- what is kept where a packet comes forward, whatever the packets are
    pub brought_keeps : {A : Type 0} (of : Plan → List Wait → A) (i : ℕ) (r : Planned L) →
        of (after_bringing_at known now i r).plan (after_bringing_at known now i r).sockets.waits ≡ of r.plan r.sockets.waits
    brought_keeps of i r = by (waiting_at i r) where
      by : (o : Option Waiting) → of (if_brought known now i r o).plan (if_brought known now i r o).sockets.waits ≡ of r.plan r.sockets.waits
      by None = refl
      by (Some w) = two (socket_at r.sockets i) where
        two : (o : Option (SocketOf L)) → of r.plan (with_front_of (goes_first known now w) i r.sockets o).waits ≡ of r.plan r.sockets.waits
        two None = refl
        two (Some s) = refl

    pub all_brought_keep : {A : Type 0} (of : Plan → List Wait → A) (r : Planned L) →
        of (with_packets_brought known now r).plan (with_packets_brought known now r).sockets.waits ≡ of r.plan r.sockets.waits
    all_brought_keep of r = by r.plan.is_waiting where
      by : (b : Bool) → of (if b then after_bringing known now r else r).plan (if b then after_bringing known now r else r).sockets.waits
          ≡ of r.plan r.sockets.waits
      by false = refl
      by true = kept (λ (s : Planned L). of s.plan s.sockets.waits) (after_bringing_at known now) (λ i s. brought_keeps of i s) (length r.plan.watches) r

    -- what is kept where a socket may be asked although it waits
    pub passing_keeps : {A : Type 0} (of : Planned L → A) → ((i : ℕ) (r : Planned L) → of (with_pass i r) ≡ of r) →
        (r : Planned L) → of (with_packets_passing known now r) ≡ of r
    passing_keeps of one r = by r.plan.is_waiting where
      step : (i : ℕ) (s : Planned L) → of (after_passing_at known now i s) ≡ of s
      step i s = two (may_pass known now (socket_at s.sockets i) (wait_of s.sockets i)) where
        two : (b : Bool) → of (if b then with_pass i s else s) ≡ of s
        two false = refl
        two true = one i s

      by : (b : Bool) → of (if b then after_passing known now r else r) ≡ of r
      by false = refl
      by true = kept of (after_passing_at known now) step (length r.plan.watches) r

    -- a socket that may not pass keeps its wait
    pub not_passing : (i : ℕ) (r : Planned L) → may_pass known now (socket_at r.sockets i) (wait_of r.sockets i) ≡ false →
        wait_of (with_packets_passing known now r).sockets i ≡ wait_of r.sockets i
    not_passing i r isnt = by r.plan.is_waiting where
      socket : Option (SocketOf L)
      socket = socket_at r.sockets i

      places : (n : ℕ) → (each_of (after_passing_at known now) n r).sockets.places ≡ r.sockets.places
      places n = kept (λ (s : Planned L). s.sockets.places) (after_passing_at known now) step n r where
        step : (j : ℕ) (s : Planned L) → (after_passing_at known now j s).sockets.places ≡ s.sockets.places
        step j s = two (may_pass known now (socket_at s.sockets j) (wait_of s.sockets j)) where
          two : (b : Bool) → (if b then with_pass j s else s).sockets.places ≡ s.sockets.places
          two false = refl
          two true = refl

      all : (n : ℕ) → wait_of (each_of (after_passing_at known now) n r).sockets i ≡ wait_of r.sockets i
      all zero = refl
      all (suc m) = two (cases_eq i m) (all m) where
        mid : Planned L
        mid = each_of (after_passing_at known now) m r

        two : ((i ≡ m) ⊎ (i ≡ m → ⊥)) → wait_of mid.sockets i ≡ wait_of r.sockets i →
            wait_of (after_passing_at known now m mid).sockets i ≡ wait_of r.sockets i
        two (inl same) before = subst (λ (k : ℕ). wait_of (after_passing_at known now k mid).sockets i ≡ wait_of r.sockets i) same
            (subst (λ (b : Bool). wait_of (if b then with_pass i mid else mid).sockets i ≡ wait_of r.sockets i) (sym still) before) where
              still : may_pass known now (socket_at mid.sockets i) (wait_of mid.sockets i) ≡ false
              still = ap (λ (w : Wait). may_pass known now (socket_at mid.sockets i) w) before
                  ∙ (ap (λ (ps : List (Option (SocketOf L))). may_pass known now (option_and_then (λ place. place) (slice_get ps i)) (wait_of r.sockets i))
                  (places m) ∙ isnt)
        two (inr other) before = three (may_pass known now (socket_at mid.sockets m) (wait_of mid.sockets m)) where
          three : (b : Bool) → wait_of (if b then with_pass m mid else mid).sockets i ≡ wait_of r.sockets i
          three false = before
          three true = ap (λ (w : Wait). option_and_then (λ it. w) (socket_at mid.sockets i)) (other_set mid.sockets.waits m i None None other) ∙ before

      by : (b : Bool) → wait_of (if b then after_passing known now r else r).sockets i ≡ wait_of r.sockets i
      by false = refl
      by true = all (length r.plan.watches)
