use Rattle.std.proofs.Common.{◌≡◌, ℕ, ◌+◌, ◌*◌, ◌<◌, false, List, length, get_or, take, None, sym, arith}
use Rattle.std.specs.Char.{is_ascii_digit, digit_value}
use Rattle.std.specs.Str.Parse.{digits_value}
use Rattle.std.proofs.lemmas.Bool.{and_right, lt-leb, cond-false}
use Rattle.std.proofs.lemmas.Bool.Decides.{nat_tests}
use Rattle.std.proofs.lemmas.Int.Digits.{digits_value_more}
use Rattle.std.proofs.lemmas.Str.Parse.{digits_value-take-le}
use Rattle.script.specs.Text.{is_number_up_to, number_up_to}
use Rattle.script.proofs.Digits.{list_all_more}
use Rattle.script.proofs.line.parse_number.Goals as goal

no_number : (most : ℕ) (ds : List ℕ) → is_number_up_to most ds ≡ false → None ≡ number_up_to most ds
no_number most ds e = sym (cond-false _ _ _ e)

-- where the first digits make too much, all do
too_much : (most : ℕ) (ds : List ℕ) (i : ℕ) →
    i < length ds → most < digits_value 10 (take i ds) * 10 + digit_value (get_or ds i 0) → is_number_up_to most ds ≡ false
too_much most ds i inside large =
    and_right _ _ (and_right _ _
    (lt-leb (digits_value 10 ds) most (omega (arith, digits_value_more 10 ds i inside, digits_value-take-le 10 ds (i + 1) (omega arith)))))

pub returns-then-number-from-clause-number : goal.returns-then-number-from-clause-number
returns-then-number-from-clause-number c =
    let digit : digit_value (get_or c.args.digits.now c.loop-digit.digit-index 0) ≡ c.from.result = grind (arith, nat_tests) in
    no_number c.args.most c.args.digits.now
    (too_much _ _ _ c.loop-digit-test.true (omega (arith, c.loop-digit.invariant.0, c.if-number-from.true, c.from-in-loop-digit.ensures)))

pub loop-digit-preserved : goal.loop-digit-preserved
loop-digit-preserved c =
    let digit : digit_value (get_or c.args.digits.now c.loop-digit.digit-index 0) ≡ c.from.result = grind (arith, nat_tests) in (
      omega (arith, digits_value_more 10 c.args.digits.now _ c.loop-digit-test.true, c.loop-digit.invariant.0),
      list_all_more is_ascii_digit _ _ 0 c.loop-digit-test.true c.loop-digit.invariant.1 (sym c.if-not-is_ascii_digit.ensures.value),
      omega (arith, c.if-number-from.false, c.from-in-loop-digit.ensures),
    )
