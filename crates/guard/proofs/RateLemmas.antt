-- Tokens of a rate, taken one after another.
use Rattle.std.proofs.Common.{◌≡◌, ◌≤◌, ◌+◌, ◌-◌, ◌*◌, ℕ, zero, suc, Bool, true, false, refl, subst, arith}
use Rattle.std.specs.Prelude.{◌≢◌, max, nat_lt, ◌==◌, ◌||◌, if◌then◌else◌}
use Rattle.net_base.specs.declared.bucket.Bucket.{Bucket}
use Rattle.net_base.specs.Bucket.{has_token}
use Rattle.std.proofs.lemmas.Bool.Decides.{nat_tests}
use Rattle.guard.specs.Guard.{at_clock, has_room}

-- a bucket after a token was taken
abbrev pub less : ℕ → Bucket → Bucket
less now b = record b { full_at = max b.full_at now + b.interval }

-- what is no such answer changes nothing, and one that is takes a token where there is one, by the clock; a rate whose interval is 0
-- bounds nothing
pub data TakesToken (now : ℕ) (passes : Bool) (old new : Bucket) : Type 0 where
  Unbounded : old.interval ≡ 0 → new ≡ old → TakesToken now passes old new
  Passed : passes ≡ true → has_token now (at_clock now old) ≡ true → new ≡ less now (at_clock now old) → TakesToken now passes old new
  Emptied : passes ≡ false → new ≡ at_clock now old → TakesToken now passes old new
  Stayed : passes ≡ false → new ≡ old → TakesToken now passes old new

-- no more tokens are missing than there are, at the latest instant
abbrev pub IsKept : Bucket → (latest : ℕ) → Type 0
IsKept b latest = b.full_at ≤ latest + b.depth * b.interval

-- a bucket that is full has a token, if it has any
pub full_has_room : (b : Bucket) (now : ℕ) → b.depth ≢ 0 → b.full_at ≤ now → has_room now b ≡ true
full_has_room b now some full =
    let a : nat_lt (now + b.depth * b.interval + 60000000) b.full_at ≡ false = grind (arith, nat_tests) in
    let one : b.interval ≤ b.depth * b.interval = multiplied b.depth b.interval some in
    let t : has_token now b ≡ true = grind (arith, nat_tests) in
    rw a (rw t (by (b.interval == 0))) where
      by : (off : Bool) → (off || true) ≡ true
      by true = refl
      by false = refl

      multiplied : (depth interval : ℕ) → depth ≢ 0 → interval ≤ depth * interval
      multiplied zero interval some = absurd (some refl)
      multiplied (suc d) interval some = omega arith

-- so a clock that goes back by no more than a minute leaves it
pub by_clock : (b : Bucket) (now latest : ℕ) → IsKept b latest → latest ≤ now + 60000000 → at_clock now b ≡ b
by_clock b now latest kept l =
    let f : nat_lt (now + b.depth * b.interval + 60000000) b.full_at ≡ false = grind (arith, nat_tests) in
    rw f refl

-- a rate whose interval is 0, and one that takes a token where it has one
abbrev pub passing : (off token : Bool) → ℕ → Bucket → Bucket
passing off token now b = if off then b else if token then less now (at_clock now b) else at_clock now b

-- instants one after another, at each of which a token is taken or not, and at so many it passes; none is more than a minute before the
-- latest that came before it
pub data Taking (first last : ℕ) : (latest : ℕ) → Bucket → (count : ℕ) → Type 0 where
  End : (latest : ℕ) (b : Bucket) → Taking first last latest b 0
  Then : (now latest count : ℕ) (passes : Bool) (b b' : Bucket) → first ≤ now → now ≤ last → latest ≤ now + 60000000 →
      TakesToken now passes b b' → Taking first last (max latest now) b' count → Taking first last latest b (if passes then suc count else count)

-- what is taken, and was before, comes within the time and the depth
abbrev IsBounded : (first last : ℕ) → Bucket → ℕ → Type 0
IsBounded first last b count = count * b.interval + max b.full_at first ≤ max (last + b.depth * b.interval) (max b.full_at first)

one_more : (k i f f' now first last room : ℕ) → f' ≡ max f now + i → f - now + i ≤ room → first ≤ now → now ≤ last →
    k * i + max f' first ≤ max (last + room) (max f' first) → suc k * i + max f first ≤ max (last + room) (max f first)
one_more k i f f' now first last room e t l h later = omega (arith, e, t, l, h, later)

bounded : (first last latest : ℕ) (b : Bucket) (count : ℕ) → first ≤ last → IsKept b latest → Taking first last latest b count →
    IsBounded first last b count
bounded first last latest b count l kept (End t c) = omega arith
bounded first last latest b count l kept (Then now t k passes c b' low high back takes later) =
    by takes (λ kept'. bounded first last (max latest now) b' k l kept' later) where
      by : TakesToken now passes b b' → (IsKept b' (max latest now) → IsBounded first last b' k) →
          IsBounded first last b (if passes then suc k else k)
      by (Unbounded z e) next = rw z (omega arith)
      by (Passed p h e) next =
          let same : at_clock now b ≡ b = by_clock b now latest kept back in
          let token : has_token now b ≡ true = subst (λ (x : Bucket). has_token now x ≡ true) same h in
          let room : b.full_at - now + b.interval ≤ b.depth * b.interval = grind (arith, nat_tests) in
          let e' : b' ≡ less now b = subst (λ (x : Bucket). b' ≡ less now x) same e in
          let next' : k * b.interval + max (less now b).full_at first ≤ max (last + b.depth * b.interval) (max (less now b).full_at first) =
          subst (λ (x : Bucket). IsKept x (max latest now) → IsBounded first last x k) e' next (omega (arith, room)) in
          rw p (one_more k b.interval b.full_at (less now b).full_at now first last (b.depth * b.interval) refl room low high next')
      by (Emptied p e) next =
          let same : at_clock now b ≡ b = by_clock b now latest kept back in
          let e' : b' ≡ b = subst (λ (x : Bucket). b' ≡ x) same e in
          rw p (subst (λ (x : Bucket). IsKept x (max latest now) → IsBounded first last x k) e' next (omega (arith, kept)))
      by (Stayed p e) next =
          rw p (subst (λ (x : Bucket). IsKept x (max latest now) → IsBounded first last x k) e next (omega (arith, kept)))

abbrev IsFew : (first last : ℕ) → Bucket → ℕ → Type 0
IsFew first last b count = count * b.interval ≤ (last - first) + b.depth * b.interval

-- a bucket from which a token was taken
after_one : (first last now latest k : ℕ) (b b' : Bucket) → first ≤ now → now ≤ last → has_token now b ≡ true → b' ≡ less now b →
    (IsKept b' (max latest now) → IsBounded first last b' k) → suc k * b.interval ≤ (last - first) + b.depth * b.interval
after_one first last now latest k b b' low high h e next =
    let room : b.full_at - now + b.interval ≤ b.depth * b.interval = grind (arith, nat_tests) in
    let next' : k * b.interval + max (less now b).full_at first ≤ max (last + b.depth * b.interval) (max (less now b).full_at first) =
    subst (λ (x : Bucket). IsKept x (max latest now) → IsBounded first last x k) e next (omega (arith, room)) in
    let one : suc k * b.interval ≡ k * b.interval + b.interval = omega arith in
    omega (arith, room, low, high, next', one)

-- a clock that has gone back fills the bucket once
passed : (first last now latest k : ℕ) (b b' : Bucket) (ahead : Bool) → first ≤ now → now ≤ last →
    nat_lt (now + b.depth * b.interval + 60000000) b.full_at ≡ ahead → has_token now (at_clock now b) ≡ true →
    b' ≡ less now (at_clock now b) → (IsKept b' (max latest now) → IsBounded first last b' k) → IsFew first last b (suc k)
passed first last now latest k b b' true low high a h e next =
    let h' : has_token now (record b { full_at = now }) ≡ true =
    subst (λ (t : Bool). has_token now (if t then record b { full_at = now } else b) ≡ true) a h in
    let e' : b' ≡ less now (record b { full_at = now }) = subst (λ (t : Bool). b' ≡ less now (if t then record b { full_at = now } else b)) a e in
    after_one first last now latest k (record b { full_at = now }) b' low high h' e' next
passed first last now latest k b b' false low high a h e next =
    let h' : has_token now b ≡ true = subst (λ (t : Bool). has_token now (if t then record b { full_at = now } else b) ≡ true) a h in
    let e' : b' ≡ less now b = subst (λ (t : Bool). b' ≡ less now (if t then record b { full_at = now } else b)) a e in
    after_one first last now latest k b b' low high h' e' next

emptied : (first last now latest k : ℕ) (b b' : Bucket) (ahead : Bool) → first ≤ now → now ≤ last →
    nat_lt (now + b.depth * b.interval + 60000000) b.full_at ≡ ahead → b' ≡ at_clock now b →
    (IsKept b' (max latest now) → IsBounded first last b' k) → IsFew first last b' k → IsFew first last b k
emptied first last now latest k b b' true low high a e next rest =
    let e' : b' ≡ record b { full_at = now } = subst (λ (t : Bool). b' ≡ (if t then record b { full_at = now } else b)) a e in
    let after_it : k * b.interval + max now first ≤ max (last + b.depth * b.interval) (max now first) =
    subst (λ (x : Bucket). IsKept x (max latest now) → IsBounded first last x k) e' next (omega arith) in
    omega (arith, low, high, after_it)
emptied first last now latest k b b' false low high a e next rest =
    let e' : b' ≡ b = subst (λ (t : Bool). b' ≡ (if t then record b { full_at = now } else b)) a e in
    subst (λ (x : Bucket). IsFew first last x k) e' rest

-- so few pass, from whatever instant the clock came
pub few : (first last latest : ℕ) (b : Bucket) (count : ℕ) → first ≤ last → Taking first last latest b count → IsFew first last b count
few first last latest b count l (End t c) = omega arith
few first last latest b count l (Then now t k passes c b' low high back takes later) =
    by takes (λ kept'. bounded first last (max latest now) b' k l kept' later) (few first last (max latest now) b' k l later) where
      by : TakesToken now passes b b' → (IsKept b' (max latest now) → IsBounded first last b' k) → IsFew first last b' k →
          IsFew first last b (if passes then suc k else k)
      by (Unbounded z e) next rest = rw z (omega arith)
      by (Passed p h e) next rest =
          rw p (passed first last now latest k b b' (nat_lt (now + b.depth * b.interval + 60000000) b.full_at) low high refl h e next)
      by (Emptied p e) next rest =
          rw p (emptied first last now latest k b b' (nat_lt (now + b.depth * b.interval + 60000000) b.full_at) low high refl e next rest)
      by (Stayed p e) next rest = rw p (subst (λ (x : Bucket). IsFew first last x k) e rest)

-- a rate takes a token by its clock
pub rate_takes : (off token : Bool) (now : ℕ) (b : Bucket) → (b.interval == 0) ≡ off → has_token now (at_clock now b) ≡ token →
    TakesToken now (off || token) b (passing off token now b)
rate_takes true token now b z h = Unbounded (grind (arith, nat_tests)) refl
rate_takes false true now b z h = Passed refl h refl
rate_takes false false now b z h = Emptied refl refl
