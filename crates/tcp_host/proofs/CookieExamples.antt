-- A flood of SYNs, and acknowledgements beside it.
use Rattle.std.proofs.Common.{◌≡◌, ◌≤◌, ◌∙◌, ℕ, ◌+◌, ◌<◌, ◌%◌, ◌^◌, Bool, true, false, Option, Some, None, refl, sym, ap, arith}
use Rattle.std.proofs.lemmas.Bool.Decides.{nat_tests}
use Rattle.std.specs.Prelude.{◌||◌, length, nat_lt, if◌then◌else◌}
use Rattle.tcp_connection.specs.declared.segment.Segment.{Segment}
use Rattle.tcp_host.specs.Arrivals.{Begins, TooMany, NoPlace, Unkept, InPlace, HasNoPlace, MayHavePlace, IsFree, IsHalfOpen, if_within, before, cookie_for, mss_by, mss_in, syn_ack}
use Rattle.tcp_host.specs.Cookies.{slot, size_in}
use Rattle.tcp_host.specs.Examples.Cookies as example
use Rattle.tcp_host.specs.Examples.Cookies.{Flooded, NotAnswered, answer_at, flooded}
use Rattle.tcp_host.specs.Host.{Host, IsNextPlace}
use Rattle.tcp_host.specs.declared.iss.Endpoints.{Endpoints}
use Rattle.tcp_host.specs.declared.resets.Reply.{Reply}
use Rattle.tcp_host.specs.declared.resets.Reply.TheVariants.{Cookie}
use Rattle.tcp_host.proofs.CookieLemmas.{cookies_are_known, old_cookies_are_unknown, cookie_fits, fits}

abbrev first_if : Bool → Option ℕ
first_if is_within = if is_within then Some 0 else None

first_held : (is_within : Bool) → is_within ≡ true → first_if is_within ≡ None → {A : Type 0} → A
first_held true within none = absurd cc
first_held false within none = absurd cc

held : (n : ℕ) → 0 < n → if_within n (Some 0) ≡ None → {A : Type 0} → A
held n some none = let within : nat_lt 0 n ≡ true = grind (arith, nat_tests, some) in first_held (nat_lt 0 n) within none

unkept : (h new : Host) (now : ℕ) (e : Endpoints) (s : Segment) (reply : Option Reply) → 0 < length h.slots →
    Begins 0 now e s (flooded h) reply new → (reply ≡ Some (Cookie (syn_ack now e s (flooded h)))) × (new ≡ flooded h)
unkept h new now e s reply some (TooMany full none is) = absurd cc
unkept h new now e s reply some (NoPlace room had none is) = held (length h.slots) some (had.no_half_open 0 (omega arith))
unkept h new now e s reply some (Unkept room crowded may one is) = (one, is)
unkept h new now e s reply some (InPlace place room few next none is) = absurd cc

taken : (h : Host) (place : ℕ) → IsNextPlace h (Some place) → IsNextPlace h None → {A : Type 0} → A
taken h place next none = let late = none place next.0 in let early = next.2 in absurd (omega (arith, late, early))

never_had : (h : Host) → HasNoPlace h → MayHavePlace h → {A : Type 0} → A
never_had h left (IsFree place next) = taken h place next left.none
never_had h left (IsHalfOpen from most) = let some = most.some in let none = left.no_half_open from most.within in absurd cc

unanswered : (h new : Host) (index now : ℕ) (e : Endpoints) (s : Segment) (reply : Option Reply) → HasNoPlace h →
    Begins index now e s h reply new → reply ≡ None
unanswered h new index now e s reply never_so (TooMany full none is) = none
unanswered h new index now e s reply never_so (NoPlace room none_had none is) = none
unanswered h new index now e s reply never_so (Unkept room crowded may one is) = never_had h never_so may
unanswered h new index now e s reply never_so (InPlace place room few next none is) = none

before_after : (n : ℕ) → n < 2 ^ 32 → before ((n + 1) % 2 ^ 32) ≡ n
before_after n few = omega (arith, few)

number_told : (made : ℕ) (e : Endpoints) (h : Host) →
    before (((syn_ack made e example.syn h).header.number + 1) % 2 ^ 32) ≡ cookie_for made e example.syn h
number_told made e h =
    ap (λ (n : ℕ). before ((n + 1) % 2 ^ 32)) (sym (cookie_fits made e example.syn h))
    ∙ before_after (cookie_for made e example.syn h) (fits made e example.syn h)

two_slots : (made now : ℕ) → now ≤ made + 128000000 → slot now ≤ slot made + 2
two_slots made now few = omega (arith, few)

three_slots : (made now : ℕ) → made + 192000000 ≤ now → slot made + 3 ≤ slot now
three_slots made now old = omega (arith, old)

few_slots : (made now : ℕ) → now ≤ made + 1984000000 → slot now ≤ slot made + 31
few_slots made now few = omega (arith, few)

pub in_a_flood : Flooded
in_a_flood = record {
  unkept = unkept;
  known = λ h made now e le few.
      ap (λ (n : ℕ). size_in h.config.table_key e 1000 now n) (number_told made e h)
      ∙ cookies_are_known h.config.table_key e 1000 made now 1460 le (two_slots made now few);
}

of_syn : (now : ℕ) (e : Endpoints) (s : Segment) (h : Host) → s.syn ≡ true → (o : Option ℕ) → mss_by now e s o h ≡ None
of_syn now e s h is None = refl
of_syn now e s h is (Some n) =
    ap (λ (b : Bool). if b || s.rst then None else size_in h.config.table_key e (before s.number) now (before n)) is

or_true : (a b : Bool) → b ≡ true → a || b ≡ true
or_true true b is = refl
or_true false b is = is

of_reset : (now : ℕ) (e : Endpoints) (s : Segment) (h : Host) → s.rst ≡ true → (o : Option ℕ) → mss_by now e s o h ≡ None
of_reset now e s h is None = refl
of_reset now e s h is (Some n) =
    ap (λ (b : Bool). if b then None else size_in h.config.table_key e (before s.number) now (before n)) (or_true s.syn s.rst is)

pub not_answered : NotAnswered
not_answered = record {
  old = λ h made now e old few.
      ap (λ (n : ℕ). size_in h.config.table_key e 1000 now n) (number_told made e h)
      ∙ old_cookies_are_unknown h.config.table_key e 1000 made now 1460 (three_slots made now old) (few_slots made now few);
  no_place = unanswered;
  syn = λ h now e s is. of_syn now e s h is s.ack;
  reset = λ h now e s is. of_reset now e s h is s.ack;
}
