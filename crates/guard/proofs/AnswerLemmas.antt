-- Few answers go.
use Rattle.std.proofs.Common.{◌≡◌, ◌≤◌, ◌<◌, ◌+◌, ◌*◌, ℕ, Bool, true, false, refl, subst, arith, List, [], ◌∷◌, length}
use Rattle.std.specs.Prelude.{◌≢◌, max, is_none, not, ◌||◌, ◌&&◌, ◌==◌, nat_lt, Some, None, if◌then◌else◌, Option}
use Rattle.std.proofs.lemmas.Bool.Decides.{nat_tests}
use Rattle.net_base.specs.declared.bucket.Bucket.{Bucket}
use Rattle.net_base.specs.Bucket.{has_token}
use Rattle.guard.specs.declared.answers.Answer.{Answer}
use Rattle.guard.specs.declared.answers.Answer.TheVariants.{Error, Reset}
use Rattle.guard.specs.declared.answers.Answers.{Answers}
use Rattle.guard.specs.Answers.{after_answer, after_rate, answer_of, is_oversized, is_too_long, rate_of, refused}
use Rattle.guard.specs.Guard.{at_clock, has_room}
use Rattle.guard.specs.AnswerLaws.{AreWithin, ClockMayGoBack, ErrorsAreShort, FewAnswersGo, OtherAnswersGo, Response, after, goes, is_one, sent}
use Rattle.guard.proofs.RateLemmas.{End, Stayed, TakesToken, Taking, Then, few, passing, rate_takes}

-- an answer goes exactly if its rate passes it
goes_if : (room : Bool) (kind : Answer) → is_none (if not room then Some kind else None) ≡ room
goes_if true kind = refl
goes_if false kind = refl

-- an answer that is too long takes nothing, and another one takes from its own rate alone
own_takes : (long off token : Bool) (kind : Answer) (known : Bool) (now : ℕ) (g h : Answers) → (b : Bucket) → rate_of kind known g ≡ b →
    (b.interval == 0) ≡ off → has_token now (at_clock now b) ≡ token → rate_of kind known h ≡ passing off token now b →
    TakesToken now (is_none (if long || not (off || token) then Some kind else None)) (rate_of kind known g)
    (rate_of kind known (if long then g else h))
own_takes true off token kind known now g h b e z t e' = Stayed refl refl
own_takes false off token kind known now g h b e z t e' = rw e (rw e' (rw (goes_if (off || token) kind) (rate_takes off token now b z t)))

others_stay : (long : Bool) (kind : Answer) (known : Bool) (g h : Answers) → rate_of kind known h ≡ rate_of kind known g →
    rate_of kind known (if long then g else h) ≡ rate_of kind known g
others_stay true kind known g h e = refl
others_stay false kind known g h e = e

takes : (kind : Answer) (known : Bool) (answer : Option Answer) (now answered len : ℕ) (to_known : Bool) (g : Answers) →
    TakesToken now (is_one kind known answer to_known && is_none (refused now answer answered len to_known g)) (rate_of kind known g)
    (rate_of kind known (after_answer now answer answered len to_known g))
takes kind known None now answered len to_known g = Stayed refl refl
takes Error true (Some Error) now answered len true g =
    own_takes (is_too_long answered len g.longest_error) (g.known_errors.interval == 0) (has_token now (at_clock now g.known_errors)) Error
    true now g (after_rate now Error true g) g.known_errors refl refl refl refl
takes Error true (Some Error) now answered len false g =
    Stayed refl (others_stay (is_too_long answered len g.longest_error) Error true g (after_rate now Error false g) refl)
takes Error false (Some Error) now answered len true g =
    Stayed refl (others_stay (is_too_long answered len g.longest_error) Error false g (after_rate now Error true g) refl)
takes Error false (Some Error) now answered len false g =
    own_takes (is_too_long answered len g.longest_error) (g.errors.interval == 0) (has_token now (at_clock now g.errors)) Error
    false now g (after_rate now Error false g) g.errors refl refl refl refl
takes Error true (Some Reset) now answered len true g = Stayed refl refl
takes Error true (Some Reset) now answered len false g = Stayed refl refl
takes Error false (Some Reset) now answered len true g = Stayed refl refl
takes Error false (Some Reset) now answered len false g = Stayed refl refl
takes Reset true (Some Error) now answered len true g =
    Stayed refl (others_stay (is_too_long answered len g.longest_error) Reset true g (after_rate now Error true g) refl)
takes Reset true (Some Error) now answered len false g =
    Stayed refl (others_stay (is_too_long answered len g.longest_error) Reset true g (after_rate now Error false g) refl)
takes Reset false (Some Error) now answered len true g =
    Stayed refl (others_stay (is_too_long answered len g.longest_error) Reset false g (after_rate now Error true g) refl)
takes Reset false (Some Error) now answered len false g =
    Stayed refl (others_stay (is_too_long answered len g.longest_error) Reset false g (after_rate now Error false g) refl)
takes Reset true (Some Reset) now answered len true g =
    own_takes false (g.known_resets.interval == 0) (has_token now (at_clock now g.known_resets)) Reset true now g (after_rate now Reset true g)
    g.known_resets refl refl refl refl
takes Reset true (Some Reset) now answered len false g = Stayed refl refl
takes Reset false (Some Reset) now answered len true g = Stayed refl refl
takes Reset false (Some Reset) now answered len false g =
    own_takes false (g.resets.interval == 0) (has_token now (at_clock now g.resets)) Reset false now g (after_rate now Reset false g)
    g.resets refl refl refl refl

-- some responses take tokens one after another
taking : (kind : Answer) (known : Bool) (g : Answers) (first latest last : ℕ) (responses : List Response) →
    AreWithin first latest last responses → Taking first last latest (rate_of kind known g) (sent kind known g responses)
taking kind known g first latest last [] within = End latest (rate_of kind known g)
taking kind known g first latest last (r ∷ later) (low, high, back, rest) =
    Then r.at latest (sent kind known (after r g) later) (is_one kind known (answer_of r.frame) r.known && goes r g) (rate_of kind known g)
    (rate_of kind known (after r g)) low high back (takes kind known (answer_of r.frame) r.at r.answered (length r.frame) r.known g)
    (taking kind known (after r g) first (max latest r.at) last later rest)

pub few_answers : FewAnswersGo
few_answers kind known g first last responses l within =
    few first last first (rate_of kind known g) (sent kind known g responses) l (taking kind known g first first last responses within)

-- a bucket that is so far ahead is full
full_again : (b : Bucket) (now : ℕ) → 1 ≤ b.depth → now + b.depth * b.interval + 60000000 < b.full_at → has_room now b ≡ true
full_again b now some ahead =
    let a : nat_lt (now + b.depth * b.interval + 60000000) b.full_at ≡ true = grind (arith, nat_tests) in
    let t : has_token now (record b { full_at = now }) ≡ true = grind (arith, nat_tests) in
    rw a (rw t (by (b.interval == 0))) where
      by : (off : Bool) → (off || true) ≡ true
      by true = refl
      by false = refl

goes_again : (kind : Answer) (known : Bool) (answer : Option Answer) (now answered len : ℕ) (to_known : Bool) (g : Answers) →
    is_one kind known answer to_known ≡ true → is_oversized kind answered len g ≡ false → has_room now (rate_of kind known g) ≡ true →
    is_none (refused now answer answered len to_known g) ≡ true
goes_again kind known None now answered len to_known g is short room = absurd cc
goes_again Error true (Some Error) now answered len true g is short room = rw short (rw room refl)
goes_again Error true (Some Error) now answered len false g is short room = absurd cc
goes_again Error false (Some Error) now answered len true g is short room = absurd cc
goes_again Error false (Some Error) now answered len false g is short room = rw short (rw room refl)
goes_again Error true (Some Reset) now answered len to_known g is short room = absurd cc
goes_again Error false (Some Reset) now answered len to_known g is short room = absurd cc
goes_again Reset true (Some Error) now answered len to_known g is short room = absurd cc
goes_again Reset false (Some Error) now answered len to_known g is short room = absurd cc
goes_again Reset true (Some Reset) now answered len true g is short room = rw room refl
goes_again Reset true (Some Reset) now answered len false g is short room = absurd cc
goes_again Reset false (Some Reset) now answered len true g is short room = absurd cc
goes_again Reset false (Some Reset) now answered len false g is short room = rw room refl

pub clock_may_go_back : ClockMayGoBack
clock_may_go_back kind known g r is short some ahead =
    goes_again kind known (answer_of r.frame) r.at r.answered (length r.frame) r.known g is short
    (full_again (rate_of kind known g) r.at some ahead)

-- an error that is not too long
short_if : (none long : Bool) (answered len times : ℕ) → (times == 0) ≡ none → nat_lt (answered * times) len ≡ long → times ≢ 0 → (room : Bool) →
    is_none (if (not none && long) || not room then Some Error else None) ≡ true → len ≤ answered * times
short_if true long answered len times n l some room e = absurd (some (grind (arith, nat_tests)))
short_if false true answered len times n l some room e = absurd cc
short_if false false answered len times n l some room e = grind (arith, nat_tests)

pub errors_are_short : ErrorsAreShort
errors_are_short r g some is e =
    let goes' : is_none (refused r.at (Some Error) r.answered (length r.frame) r.known g) ≡ true =
    subst (λ (a : Option Answer). is_none (refused r.at a r.answered (length r.frame) r.known g) ≡ true) is e in
    short_if (g.longest_error == 0) (nat_lt (r.answered * g.longest_error) (length r.frame)) r.answered (length r.frame) g.longest_error refl refl
    some (has_room r.at (rate_of Error r.known g)) goes'

pub other_answers : OtherAnswersGo
other_answers r g is = rw is (refl, refl)
