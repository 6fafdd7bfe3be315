-- What a token bucket lets through.
use Rattle.std.proofs.Common.{◌≡◌, ◌≤◌, ◌+◌, ◌-◌, ◌*◌, ℕ, zero, suc, Bool, true, false, refl, ap, arith, List, [], ◌∷◌}
use Rattle.std.specs.Prelude.{max}
use Rattle.std.proofs.lemmas.Bool.Decides.{nat_tests}
use Rattle.net_base.specs.declared.bucket.Bucket.{Bucket}
use Rattle.net_base.specs.Bucket.{has_token, taken, AreWithin, so_many, FewAreTaken, AfterRest}

-- one token more, from what the later ones come to
one_more : (k i f f' now first last room : ℕ) → f' ≡ max f now + i → f - now + i ≤ room → first ≤ now → now ≤ last →
    k * i + max f' first ≤ max (last + room) (max f' first) → suc k * i + max f first ≤ max (last + room) (max f first)
one_more k i f f' now first last room e t l h later = omega (arith, e, t, l, h, later)

abbrev IsBounded : Bucket → (first last : ℕ) → List ℕ → Type 0
IsBounded b first last instants =
    taken b instants * b.interval + max b.full_at first ≤ max (last + b.depth * b.interval) (max b.full_at first)

-- the tokens of some instants, and what was taken before, come within the time and the depth
all_taken : (b : Bucket) (first last : ℕ) (instants : List ℕ) → first ≤ last → AreWithin first last instants →
    IsBounded b first last instants
all_taken b first last [] l within = omega arith
all_taken b first last (now ∷ later) l (low, high, rest) =
    by (has_token now b) refl (λ c. all_taken c first last later l rest) where
      by : (t : Bool) → has_token now b ≡ t → ((c : Bucket) → IsBounded c first last later) → IsBounded b first last (now ∷ later)
      by true t kept =
          let room : b.full_at - now + b.interval ≤ b.depth * b.interval = grind (arith, nat_tests) in
          let after : Bucket = record b { full_at = max b.full_at now + b.interval } in
          rw t (one_more (taken after later) b.interval b.full_at after.full_at now first last (b.depth * b.interval) refl room low high
          (kept after))
      by false t kept = rw t (kept b)

pub few_are_taken : FewAreTaken
few_are_taken b first last instants l within =
    let all = all_taken b first last instants l within in
    omega (arith, all)

-- as long as so many tokens are left, so many are taken at one instant
left_taken : (k : ℕ) (b : Bucket) (now : ℕ) → b.full_at - now + k * b.interval ≤ b.depth * b.interval → taken b (so_many k now) ≡ k
left_taken zero b now room = refl
left_taken (suc k) b now room =
    let t : has_token now b ≡ true = grind (arith, nat_tests) in
    let after : Bucket = record b { full_at = max b.full_at now + b.interval } in
    let left : after.full_at - now + k * b.interval ≤ b.depth * b.interval = omega (arith, room) in
    rw t (ap (λ (n : ℕ). suc n) (left_taken k after now left))

pub after_rest : AfterRest
after_rest b now full = left_taken b.depth b now (omega (arith, full))
