-- Who takes what in the worked examples with sockets.
use Rattle.std.proofs.Common.{◌≡◌, ℕ, zero, suc, ◌<◌, Bool, false, List, [], ◌∷◌, slice_get, Some, None, arith}
use Rattle.host_machine.specs.Context.Host.{Storage}
use Rattle.host_machine.specs.Sockets.Delivery.{NoneAccepts}

-- a place before the second one is the first
pub first_is_free : (test : Storage → Bool) (places : List Storage) → test None ≡ false → (k : ℕ) (other : Storage) →
    k < 1 → slice_get (None ∷ places) k ≡ Some other → test other ≡ false
first_is_free test places free zero other before there = let same : None ≡ other = cc in rw (← same) free
first_is_free test places free (suc k) other before there = absurd (omega (arith, before))

-- there is nobody in a set of no place
pub nobody : (test : Storage → Bool) → NoneAccepts test []
nobody test k other there = absurd cc

-- nor in a set of one place, which the test doesn't take
pub none_of_one : (test : Storage → Bool) (a : Storage) → test a ≡ false → NoneAccepts test (a ∷ [])
none_of_one test a not_a zero other there = let same : a ≡ other = cc in rw (← same) not_a
none_of_one test a not_a (suc k) other there = absurd cc

-- nor in one of two, of which the test takes neither
pub none_of_two : (test : Storage → Bool) (a b : Storage) → test a ≡ false → test b ≡ false → NoneAccepts test (a ∷ b ∷ [])
none_of_two test a b not_a not_b zero other there = let same : a ≡ other = cc in rw (← same) not_a
none_of_two test a b not_a not_b (suc zero) other there = let same : b ≡ other = cc in rw (← same) not_b
none_of_two test a b not_a not_b (suc (suc k)) other there = absurd cc
