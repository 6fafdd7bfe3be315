-- The sockets of a kind at the places of a set, where some of the places change.
use Rattle.std.proofs.Common.{◌≡◌, ℕ, zero, suc, ◌==◌, Bool, true, false, List, [], ◌∷◌, refl, sym, ◌∙◌}
use Rattle.std.proofs.Common.{ap, Option, Some, None, arith, slice_get, slice_set, option_and_then, if◌then◌else◌}
use Rattle.std.specs.Prelude.{map}
use Rattle.std.proofs.lemmas.Bool.Decides.{nat_tests}
use Rattle.sockets.specs.Kinds.{down_udp}
use Rattle.sockets.specs.Udp.{UdpSocket}
use Rattle.host_machine.specs.Context.Host.{Socket, Storage}
use Rattle.host_machine.specs.Sockets.Delivery.{to_each, to_this}

-- tests on indices
eq_suc : (i j : ℕ) → (suc i == suc j) ≡ (i == j)
eq_suc i j = grind (arith, nat_tests)

zero_suc : (i : ℕ) → (zero == suc i) ≡ false
zero_suc i = grind (arith, nat_tests)

suc_zero : (i : ℕ) → (suc i == zero) ≡ false
suc_zero i = grind (arith, nat_tests)

-- of a kind; `down` is what is read of a socket of that kind, if it is one
module _ {Kind : Type 0} (down : Socket → Option Kind) where
  -- in a place, and at an index
  abbrev pub kind_in : Storage → Option Kind
  kind_in place = option_and_then down place

  abbrev pub kind_of : List Storage → ℕ → Option Kind
  kind_of places i = option_and_then down (option_and_then (λ (place : Storage). place) (slice_get places i))

  -- where each place changes
  pub each_changed : (f : Option Kind → Option Kind) → f None ≡ None → (deliver : Storage → Storage) →
      ((p : Storage) → kind_in (deliver p) ≡ f (kind_in p)) → (places : List Storage) (i : ℕ) →
      kind_of (map deliver places) i ≡ f (kind_of places i)
  each_changed f none deliver changes [] i = sym none
  each_changed f none deliver changes (p ∷ ps) zero = changes p
  each_changed f none deliver changes (p ∷ ps) (suc i) = each_changed f none deliver changes ps i

  -- where each place that meets a test changes, and what is read of its socket stays
  this_stays : (test : Storage → Bool) (deliver : Storage → Storage) → ((p : Storage) → kind_in (deliver p) ≡ kind_in p) → (p : Storage) →
      kind_in (to_this test deliver p) ≡ kind_in p
  this_stays test deliver same p = by (test p) where
    by : (b : Bool) → kind_in (if b then deliver p else p) ≡ kind_in p
    by true = same p
    by false = refl

  pub each_stays : (test : Storage → Bool) (deliver : Storage → Storage) →
      ((p : Storage) → kind_in (deliver p) ≡ kind_in p) → (places : List Storage) (i : ℕ) →
      kind_of (to_each test deliver places) i ≡ kind_of places i
  each_stays test deliver same places i = each_changed (λ o. o) refl (to_this test deliver) (this_stays test deliver same) places i

  -- where one place is another: of which the same is read
  pub one_stays : (places : List Storage) (k : ℕ) (p q : Storage) → slice_get places k ≡ Some p → kind_in q ≡ kind_in p → (i : ℕ) →
      kind_of (slice_set places k q) i ≡ kind_of places i
  one_stays [] k p q there same i = refl
  one_stays (x ∷ xs) zero p q there same zero = let is : x ≡ p = cc in rw is same
  one_stays (x ∷ xs) zero p q there same (suc i) = refl
  one_stays (x ∷ xs) (suc k) p q there same zero = refl
  one_stays (x ∷ xs) (suc k) p q there same (suc i) = one_stays xs k p q there same i

  -- or something else
  pub one_changed : (places : List Storage) (k : ℕ) (p q : Storage) → slice_get places k ≡ Some p → (i : ℕ) →
      kind_of (slice_set places k q) i ≡ (if k == i then kind_in q else kind_of places i)
  one_changed [] k p q there i = absurd cc
  one_changed (x ∷ xs) zero p q there zero = refl
  one_changed (x ∷ xs) zero p q there (suc i) = sym (ap (λ b. if b then kind_in q else kind_of xs i) (zero_suc i))
  one_changed (x ∷ xs) (suc k) p q there zero = sym (ap (λ b. if b then kind_in q else kind_of (x ∷ xs) zero) (suc_zero k))
  one_changed (x ∷ xs) (suc k) p q there (suc i) =
      one_changed xs k p q there i ∙ ap (λ b. if b then kind_in q else kind_of xs i) (sym (eq_suc k i))

-- the UDP socket in a place, and at an index
abbrev pub udp_in : Storage → Option UdpSocket
udp_in place = kind_in down_udp place

abbrev pub udp_of : List Storage → ℕ → Option UdpSocket
udp_of places i = kind_of down_udp places i

pub each_same : (test : Storage → Bool) (deliver : Storage → Storage) →
    ((p : Storage) → udp_in (deliver p) ≡ udp_in p) → (places : List Storage) (i : ℕ) →
    udp_of (to_each test deliver places) i ≡ udp_of places i
each_same test deliver same places i = each_stays down_udp test deliver same places i

pub set_same : (places : List Storage) (k : ℕ) (p q : Storage) → slice_get places k ≡ Some p → udp_in q ≡ udp_in p → (i : ℕ) →
    udp_of (slice_set places k q) i ≡ udp_of places i
set_same places k p q there same i = one_stays down_udp places k p q there same i

pub set_other : (places : List Storage) (k : ℕ) (p q : Storage) → slice_get places k ≡ Some p → (i : ℕ) →
    udp_of (slice_set places k q) i ≡ (if k == i then udp_in q else udp_of places i)
set_other places k p q there i = one_changed down_udp places k p q there i
