-- The turn comes to each.
use Rattle.std.specs.Prelude.{ℕ, ◌≡◌, ◌<◌, ◌≤◌, ◌+◌, ◌-◌, ◌⊎◌, length, refl}
use Rattle.std.proofs.Common.{inl, inr, sym, ap, ◌∙◌, subst, arith}
use Rattle.std.proofs.lemmas.Bool.{cases_eq, cases_lt, le-ltb, lt-ltb}
use Rattle.egress_schedule.specs.Laws.{AskersHaveTurns, TurnsCome, TurnsStay, ahead}
use Rattle.egress_schedule.specs.Plan.{first_from, next_in_turn, turn_after}
use Rattle.egress_schedule.specs.Turns.{asks_at}
use Rattle.egress_schedule.proofs.First.{above, below}

turn_is : (n turn had : ℕ) → had < n → turn_after n turn had ≡ had + 1
turn_is n turn had within = rw (lt-ltb had n within) refl

stays : (n turn had : ℕ) → n ≤ had → turn_after n turn had ≡ turn
stays n turn had past = rw (le-ltb had n past) refl

from_turn : (n turn i : ℕ) → turn ≤ i → ahead n turn i ≡ i - turn
from_turn n turn i after = rw (le-ltb i turn after) refl

round_about : (n turn i : ℕ) → i < turn → ahead n turn i ≡ i + (n - turn)
round_about n turn i before = rw (lt-ltb i turn before) refl

-- what is to be shown of the next one
abbrev Comes : ℕ → ℕ → ℕ → ℕ → Type 0
Comes n turn i next = (next ≡ i) ⊎ (ahead n (turn_after n turn next) i < ahead n turn i)

-- where the next one isn't behind it
not_behind : (n turn i next : ℕ) → next < n → next ≤ i → (i - next ≤ ahead n turn i) → Comes n turn i next
not_behind n turn i next within at_most before = by (cases_eq next i) where
  by : ((next ≡ i) ⊎ (next ≡ i → ⊥)) → Comes n turn i next
  by (inl same) = inl same
  by (inr other) =
      let less : next < i = omega (arith, at_most, other) in
      let left : ahead n (turn_after n turn next) i ≡ i - (next + 1) =
      ap (λ t. ahead n t i) (turn_is n turn next within) ∙ from_turn n (next + 1) i (omega (arith, less)) in
      inr (rw left (omega (arith, less, before)))

-- where it is
behind : (n turn i next : ℕ) → next < n → turn ≤ next → i < turn → Comes n turn i next
behind n turn i next within after before =
    let left : ahead n (turn_after n turn next) i ≡ i + (n - (next + 1)) =
    ap (λ t. ahead n t i) (turn_is n turn next within) ∙ round_about n (next + 1) i (omega (arith, after, before)) in
    let right = round_about n turn i before in
    inr (rw (left, right) (omega (arith, within, after, before)))

pub turns_come : TurnsCome
turns_come p n turn i within turn_within has = by (cases_lt c n) where
  c : ℕ
  c = first_from p turn (n - turn)

  d : ℕ
  d = first_from p 0 n

  d_at_most : d ≤ i
  d_at_most = below p 0 n i (omega arith) (omega (arith, within)) has

  c_at_most : turn ≤ i → c ≤ i
  c_at_most after = below p turn (n - turn) i after (omega (arith, within, turn_within)) has

  c_above : turn ≤ c
  c_above = above p turn (n - turn)

  by : ((c < n) ⊎ (n ≤ c)) → Comes n turn i (next_in_turn p turn n)
  by (inl less) = subst (Comes n turn i) (sym next_is) (two (cases_lt i turn)) where
    next_is : next_in_turn p turn n ≡ c
    next_is = rw (lt-ltb c n less) refl

    two : ((i < turn) ⊎ (turn ≤ i)) → Comes n turn i c
    two (inl before) = behind n turn i c less c_above before
    two (inr after) = not_behind n turn i c less (c_at_most after) (rw (from_turn n turn i after) (omega (arith, after, c_above)))
  by (inr past) = subst (Comes n turn i) (sym next_is) (two (cases_lt i turn)) where
    next_is : next_in_turn p turn n ≡ d
    next_is = rw (le-ltb c n past) refl

    two : ((i < turn) ⊎ (turn ≤ i)) → Comes n turn i d
    two (inl before) = not_behind n turn i d (omega (arith, d_at_most, within)) d_at_most (rw (round_about n turn i before) (omega arith))
    two (inr after) = let no = c_at_most after in absurd (omega (arith, no, past, within))

pub turns_stay : TurnsStay
turns_stay n turn had within = (stays n turn had, by (cases_lt had n)) where
  by : ((had < n) ⊎ (n ≤ had)) → turn_after n turn had ≤ n
  by (inl less) = rw (turn_is n turn had less) (omega (arith, less))
  by (inr past) = rw (stays n turn had past) within

pub askers_have_turns : AskersHaveTurns
askers_have_turns now r i within turn_within asks = turns_come (asks_at now r) (length r.plan.watches) r.plan.discovery_turn i within turn_within asks
