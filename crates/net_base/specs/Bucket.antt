-- A token bucket. A token comes each interval, as long as fewer are there than its depth.
use Rattle.std.specs.Prelude.{◌≡◌, ℕ, zero, suc, ◌+◌, ◌-◌, ◌*◌, ◌≤◌, max, nat_le, Bool, if◌then◌else◌}
use Rattle.std.specs.Prelude.{List, [], ◌∷◌}
use Rattle.net_base.specs.declared.bucket.Bucket.{Bucket}

-- a token is there, if those that are missing and one more are not more than all
abbrev pub has_token : ℕ → Bucket → Bool
has_token now b = nat_le (b.full_at - now + b.interval) (b.depth * b.interval)

abbrev pub after_take : ℕ → Bucket → Bucket
after_take now b = if has_token now b then record b { full_at = max b.full_at now + b.interval } else b

-- how many of some instants, one after another, get a token
abbrev pub taken : Bucket → List ℕ → ℕ
taken b [] = 0
taken b (now ∷ later) = if has_token now b then suc (taken (after_take now b) later) else taken b later

-- all instants are from a first one to a last one
abbrev pub AreWithin : ℕ → ℕ → List ℕ → Type 0
AreWithin first last [] = Unit {0}
AreWithin first last (now ∷ later) = (first ≤ now) × (now ≤ last) × AreWithin first last later

-- in a time as many as it is deep, and one for each interval of that time
abbrev pub FewAreTaken : Type 0
FewAreTaken =
    (b : Bucket) (first last : ℕ) (instants : List ℕ) → first ≤ last → AreWithin first last instants →
    taken b instants * b.interval ≤ (last - first) + b.depth * b.interval

-- so many times the same instant
abbrev pub so_many : ℕ → ℕ → List ℕ
so_many zero now = []
so_many (suc n) now = now ∷ so_many n now

-- once it is full, all its tokens are there at once
abbrev pub AfterRest : Type 0
AfterRest = (b : Bucket) (now : ℕ) → b.full_at ≤ now → taken b (so_many b.depth now) ≡ b.depth
