-- What a guard promises of answers to strangers' frames.
use Rattle.std.specs.Prelude.{◌≡◌, ◌≢◌, ◌≤◌, ◌<◌, ◌+◌, ◌-◌, ◌*◌, ◌&&◌, not, max, ℕ, suc, Bool, true, false, List, [], ◌∷◌, is_none, length, Option, Some, None, if◌then◌else◌}
use Rattle.guard.specs.declared.answers.Answer.{Answer}
use Rattle.guard.specs.declared.answers.Answer.TheVariants.{Error, Reset}
use Rattle.guard.specs.declared.answers.Answers.{Answers}
use Rattle.guard.specs.Answers.{after_answer, answer_of, is_oversized, rate_of, refused}

-- a frame that a host would send at an instant to answer one of so many octets, of a known neighbour or of somebody else
pub record Response : Type 0 where
  pub at : ℕ
  pub frame : List ℕ
  pub answered : ℕ
  pub known : Bool

abbrev pub goes : Response → Answers → Bool
goes r g = is_none (refused r.at (answer_of r.frame) r.answered (length r.frame) r.known g)

abbrev pub after : Response → Answers → Answers
after r g = after_answer r.at (answer_of r.frame) r.answered (length r.frame) r.known g

-- an answer is of a kind, and goes to a known neighbour or to somebody else
abbrev pub is_one : Answer → (known : Bool) → Option Answer → (to_known : Bool) → Bool
is_one kind known None to_known = false
is_one Error true (Some Error) to_known = to_known
is_one Error false (Some Error) to_known = not to_known
is_one Error known (Some Reset) to_known = false
is_one Reset known (Some Error) to_known = false
is_one Reset true (Some Reset) to_known = to_known
is_one Reset false (Some Reset) to_known = not to_known

-- how many of some responses, one after another, are so and go
abbrev pub sent : Answer → (known : Bool) → Answers → List Response → ℕ
sent kind known g [] = 0
sent kind known g (r ∷ later) =
    if is_one kind known (answer_of r.frame) r.known && goes r g then suc (sent kind known (after r g) later)
    else sent kind known (after r g) later

-- all are from a first instant to a last one, and none is more than a minute before the latest that came before it
abbrev pub AreWithin : (first latest last : ℕ) → List Response → Type 0
AreWithin first latest last [] = Unit {0}
AreWithin first latest last (r ∷ later) =
    (first ≤ r.at) × (r.at ≤ last) × (latest ≤ r.at + 60000000) × AreWithin first (max latest r.at) last later

-- Of answers of a kind, to known neighbours or to others, so many go in a time, if the clock goes back by no more than a minute: as many
-- as the rate's depth, and one for each of its intervals
abbrev pub FewAnswersGo : Type 0
FewAnswersGo =
    (kind : Answer) (known : Bool) (g : Answers) (first last : ℕ) (responses : List Response) → first ≤ last →
    AreWithin first first last responses →
    sent kind known g responses * (rate_of kind known g).interval
    ≤ (last - first) + (rate_of kind known g).depth * (rate_of kind known g).interval

-- A clock that goes back costs nobody an hour: from whatever instant it came, an answer goes to which the rate gives a token at all
abbrev pub ClockMayGoBack : Type 0
ClockMayGoBack =
    (kind : Answer) (known : Bool) (g : Answers) (r : Response) → is_one kind known (answer_of r.frame) r.known ≡ true →
    is_oversized kind r.answered (length r.frame) g ≡ false → 1 ≤ (rate_of kind known g).depth →
    r.at + (rate_of kind known g).depth * (rate_of kind known g).interval + 60000000 < (rate_of kind known g).full_at → goes r g ≡ true

-- An error that goes is no more than so many times as long as what it answers
abbrev pub ErrorsAreShort : Type 0
ErrorsAreShort =
    (r : Response) (g : Answers) → g.longest_error ≢ 0 → answer_of r.frame ≡ Some Error → goes r g ≡ true →
    length r.frame ≤ r.answered * g.longest_error

-- What is no such answer goes, and takes nothing
abbrev pub OtherAnswersGo : Type 0
OtherAnswersGo = (r : Response) (g : Answers) → answer_of r.frame ≡ None → (goes r g ≡ true) × (after r g ≡ g)
