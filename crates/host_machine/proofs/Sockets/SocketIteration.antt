-- Going over all sockets, each once.
use Rattle.std.proofs.Common.{◌≡◌, ℕ, zero, suc, ◌+◌, ◌<◌, ◌≤◌, Bool, true, false, List, [], ◌∷◌, length}
use Rattle.std.proofs.Common.{map, slice_get, slice_set, Option, None, refl, sym, ap, ◌∙◌, arith, Some}
use Rattle.std.specs.Prelude.{◌||◌}
use Rattle.std.specs.List.{list_any}
use Rattle.std.specs.Option.{option_and_then}
use Rattle.sockets.specs.declared.socket.SocketOf.{SocketOf}
use Rattle.socket_set.specs.SocketSet.{Sockets, socket_at, with_place, with_places}
use Rattle.net_base.specs.Checksum.{is_tx}
use Rattle.ip_wire.specs.declared.ip_packet.IpRepr.{IpRepr}
use Rattle.host_machine.specs.Context.Host.{Host, SocketSet, Storage, Socket}
use Rattle.host_machine.specs.Context.Host as host
use Rattle.host_machine.specs.Sockets.Delivery.{to_each, to_this, holds}
use Rattle.host_machine.specs.Sockets.Raw.{storage_after_delivery, host_after_raw_delivery, takes}
use Rattle.socket_set.proofs.SocketSetLemmas as table

module _ {S : Type 0} where
  -- the list with the function applied to its first places
  abbrev pub mapped : (Option S → Option S) → ℕ → List (Option S) → List (Option S)
  mapped f zero ps = ps
  mapped f (suc i) [] = []
  mapped f (suc i) (p ∷ ps) = f p ∷ mapped f i ps

  -- whether one of the first places meets the test
  abbrev pub any_of : (Option S → Bool) → ℕ → List (Option S) → Bool
  any_of test zero ps = false
  any_of test (suc i) [] = false
  any_of test (suc i) (p ∷ ps) = test p || any_of test i ps

  -- what stands at a place
  abbrev pub at_place : List (Option S) → ℕ → Option S
  at_place ps i = option_and_then (λ p. p) (slice_get ps i)

  pub at_mapped : (f : Option S → Option S) (ps : List (Option S)) (i : ℕ) → at_place (mapped f i ps) i ≡ at_place ps i
  at_mapped f ps zero = refl
  at_mapped f [] (suc i) = refl
  at_mapped f (p ∷ ps) (suc i) = at_mapped f ps i

  -- what stands at a place that is still to come
  pub at_later : (f : Option S → Option S) (ps : List (Option S)) (i k : ℕ) → i ≤ k → at_place (mapped f i ps) k ≡ at_place ps k
  at_later f ps zero k later = refl
  at_later f [] (suc i) k later = refl
  at_later f (p ∷ ps) (suc i) zero later = absurd (omega (arith, later))
  at_later f (p ∷ ps) (suc i) (suc k) later = at_later f ps i k (omega (arith, later))

  -- places that the function leaves as they are
  pub mapped_passed : (f : Option S → Option S) (ps : List (Option S)) (i j : ℕ) →
      i ≤ j → ((k : ℕ) → i ≤ k → k < j → f (at_place ps k) ≡ at_place ps k) → mapped f i ps ≡ mapped f j ps
  mapped_passed f [] zero zero within same = refl
  mapped_passed f [] zero (suc j) within same = refl
  mapped_passed f [] (suc i) zero within same = refl
  mapped_passed f [] (suc i) (suc j) within same = refl
  mapped_passed f (p ∷ ps) zero zero within same = refl
  mapped_passed f (p ∷ ps) zero (suc j) within same =
      let this : f p ≡ p = same 0 (omega arith) (omega arith) in
      rw this (ap (λ (rest : List (Option S)). p ∷ rest)
      (mapped_passed f ps zero j (omega arith) (λ k from to. same (suc k) (omega (arith, from)) (omega (arith, to)))))
  mapped_passed f (p ∷ ps) (suc i) zero within same = absurd (omega (arith, within))
  mapped_passed f (p ∷ ps) (suc i) (suc j) within same =
      ap (λ (rest : List (Option S)). f p ∷ rest)
      (mapped_passed f ps i j (omega (arith, within)) (λ k from to. same (suc k) (omega (arith, from)) (omega (arith, to))))

  -- places that don't meet the test
  pub any_passed : (test : Option S → Bool) (ps : List (Option S)) (i j : ℕ) →
      i ≤ j → ((k : ℕ) → i ≤ k → k < j → test (at_place ps k) ≡ false) → any_of test i ps ≡ any_of test j ps
  any_passed test [] zero zero within none = refl
  any_passed test [] zero (suc j) within none = refl
  any_passed test [] (suc i) zero within none = refl
  any_passed test [] (suc i) (suc j) within none = refl
  any_passed test (p ∷ ps) zero zero within none = refl
  any_passed test (p ∷ ps) zero (suc j) within none =
      let this : test p ≡ false = none 0 (omega arith) (omega arith) in
      rw this (any_passed test ps zero j (omega arith) (λ k from to. none (suc k) (omega (arith, from)) (omega (arith, to))))
  any_passed test (p ∷ ps) (suc i) zero within none = absurd (omega (arith, within))
  any_passed test (p ∷ ps) (suc i) (suc j) within none =
      ap (λ b. test p || b) (any_passed test ps i j (omega (arith, within)) (λ k from to. none (suc k) (omega (arith, from)) (omega (arith, to))))

  pub mapped_more : (f : Option S → Option S) (ps : List (Option S)) (i : ℕ) →
      i < length ps → slice_set (mapped f i ps) i (f (at_place ps i)) ≡ mapped f (suc i) ps
  mapped_more f [] i within = absurd (omega arith)
  mapped_more f (p ∷ ps) zero within = refl
  mapped_more f (p ∷ ps) (suc i) within = ap (λ (rest : List (Option S)). f p ∷ rest) (mapped_more f ps i (omega arith))

  pub mapped_all : (f : Option S → Option S) (ps : List (Option S)) → mapped f (length ps) ps ≡ map f ps
  mapped_all f [] = refl
  mapped_all f (p ∷ ps) = ap (λ (rest : List (Option S)). f p ∷ rest) (mapped_all f ps)

  pub any_more : (test : Option S → Bool) (ps : List (Option S)) (i : ℕ) →
      i < length ps → any_of test i ps || test (at_place ps i) ≡ any_of test (suc i) ps
  any_more test [] i within = absurd (omega arith)
  any_more test (p ∷ ps) zero within = by (test p) where
    by : (b : Bool) → false || b ≡ b || false
    by true = refl
    by false = refl
  any_more test (p ∷ ps) (suc i) within = by (test p) (any_more test ps i (omega arith)) where
    by : (b : Bool) → any_of test i ps || test (at_place ps i) ≡ any_of test (suc i) ps →
        (b || any_of test i ps) || test (at_place ps i) ≡ b || any_of test (suc i) ps
    by true more = refl
    by false more = more

  pub any_all : (test : Option S → Bool) (ps : List (Option S)) → any_of test (length ps) ps ≡ list_any test ps
  any_all test [] = refl
  any_all test (p ∷ ps) = ap (λ b. test p || b) (any_all test ps)

  -- what stands at a place, put there again
  pub put_again : (ps : List (Option S)) (i : ℕ) → slice_set ps i (at_place ps i) ≡ ps
  put_again [] i = refl
  put_again (p ∷ ps) zero = refl
  put_again (p ∷ ps) (suc i) = ap (λ (rest : List (Option S)). p ∷ rest) (put_again ps i)

  -- one place more
  pub one_mapped : (f : Option S → Option S) (ps now : List (Option S)) (i : ℕ) →
      i < length ps → now ≡ mapped f i ps → slice_set now i (f (at_place now i)) ≡ mapped f (i + 1) ps
  one_mapped f ps now i within is =
      let next : i + 1 ≡ suc i = omega arith in
      rw (is, at_mapped f ps i, next) (mapped_more f ps i within)

  pub one_tested : (f : Option S → Option S) (test : Option S → Bool) (ps now : List (Option S)) (i : ℕ) (so this : Bool) →
      i < length ps → now ≡ mapped f i ps → so ≡ any_of test i ps →
      this ≡ test (at_place now i) → so || this ≡ any_of test (i + 1) ps
  one_tested f test ps now i so this within is was tests =
      let next : i + 1 ≡ suc i = omega arith in
      rw (was, tests, is, at_mapped f ps i, next) (any_more test ps i within)

  -- all places
  pub all_mapped : (f : Option S → Option S) (ps : List (Option S)) (i n : ℕ) → n ≡ length ps → i ≤ n → n ≤ i → mapped f i ps ≡ map f ps
  all_mapped f ps i n len low high =
      let whole : i ≡ length ps = omega (arith, len, low, high) in
      ap (λ k. mapped f k ps) whole ∙ mapped_all f ps

  pub all_tested : (test : Option S → Bool) (ps : List (Option S)) (i n : ℕ) (so : Bool) →
      n ≡ length ps → i ≤ n → n ≤ i → so ≡ any_of test i ps → so ≡ list_any test ps
  all_tested test ps i n so len low high is =
      let whole : i ≡ length ps = omega (arith, len, low, high) in
      is ∙ ap (λ k. any_of test k ps) whole ∙ any_all test ps

  -- one that meets the test
  pub one_meets : (test : Option S → Bool) (ps : List (Option S)) (i : ℕ) → i < length ps → test (at_place ps i) ≡ true → list_any test ps ≡ true
  one_meets test [] i within is = absurd (omega arith)
  one_meets test (p ∷ ps) zero within is = rw (is) refl
  one_meets test (p ∷ ps) (suc i) within is = by (test p) (one_meets test ps i (omega arith) is) where
    by : (b : Bool) → list_any test ps ≡ true → b || list_any test ps ≡ true
    by true rest = refl
    by false rest = rest

  -- a place that meets a test which a free one doesn't meet is one of them
  pub met_within : (test : Option S → Bool) (ps : List (Option S)) (i : ℕ) → test None ≡ false → test (at_place ps i) ≡ true → i < length ps
  met_within test [] i free is = absurd cc
  met_within test (p ∷ ps) zero free is = omega arith
  met_within test (p ∷ ps) (suc i) free is = omega (arith, met_within test ps i free is)

-- one place more of a set
pub one_heard : {L : Type 0} (f : Option (SocketOf L) → Option (SocketOf L)) (old now new : Sockets L) (i : ℕ) →
    i < length old.places → now ≡ with_places old (mapped f i old.places) →
    new ≡ with_place now i (f (socket_at now i)) → new ≡ with_places old (mapped f (i + 1) old.places)
one_heard f old now new i within is changed =
    changed ∙ ap (λ s. with_place s i (f (socket_at s i))) is ∙ ap (with_places old) (one_mapped f old.places (mapped f i old.places) i within refl)

-- where no place meets the test, each one that does is none
pub none_changed : (test : Storage → Bool) (deliver : Storage → Storage) (ps : List Storage) → list_any test ps ≡ false → to_each test deliver ps ≡ ps
none_changed test deliver [] none = refl
none_changed test deliver (p ∷ ps) none = by (test p) refl none (none_changed test deliver ps) where
  by : (b : Bool) → test p ≡ b → b || list_any test ps ≡ false → (list_any test ps ≡ false → to_each test deliver ps ≡ ps) →
      to_this test deliver p ∷ to_each test deliver ps ≡ p ∷ ps
  by true is none rest = absurd cc
  by false is none rest = rw (is) (ap (λ (others : List Storage). p ∷ others) (rest none))

-- so a host keeps its sockets
pub none_delivered : (r : IpRepr) (payload : List ℕ) (H : Host) →
    list_any (takes r) H.sockets.places ≡ false → H ≡ host_after_raw_delivery r payload H
none_delivered r payload H none = ap (host.with_places H)
    (sym (none_changed (takes r) (storage_after_delivery (is_tx H.capabilities.checksum.ipv4) r payload) H.sockets.places none))

-- so a set stays as it was
pub set_kept : (test : Storage → Bool) (deliver : Storage → Storage) (set : SocketSet) →
    list_any test set.places ≡ false → set ≡ with_places set (to_each test deliver set.places)
set_kept test deliver set none = ap (with_places set) (sym (none_changed test deliver set.places none))

-- a set with a socket put back as it was
pub put_back : {L : Type 0} (set : Sockets L) (i : ℕ) (s : SocketOf L) → Some s ≡ socket_at set i → with_place set i (Some s) ≡ set
put_back set i s is = ap (λ places. record set { places = places }) (table.put_back set.places i s is)

-- a set in which the place holds no socket of the kind that is meant
pub not_accepted : {Kind : Type 0} (down : Socket → Option Kind) (test : Kind → Bool) (deliver : Storage → Storage) (set : SocketSet) (i : ℕ) →
    None ≡ option_and_then down (socket_at set i) →
    set ≡ with_place set i (to_this (holds down test) deliver (socket_at set i))
not_accepted down test deliver set i none = rw (← none) (ap (λ places. record set { places = places }) (sym (put_again set.places i)))
