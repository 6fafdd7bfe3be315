use Rattle.std.proofs.Common.{◌≡◌, ◌+◌, ◌∷◌, ◌++◌, [], Some, ◌<◌, ◌∙◌, List, ℕ, ap, sym, true, false, take, drop, length, rules}
use Rattle.std.specs.List.{slice_split}
use Rattle.std.proofs.lemmas.List.{take_rest}
use Rattle.std.proofs.lemmas.Bool.{and_parts}
use Rattle.dns_client.specs.Details.Text.{is_dot, name_by}
use Rattle.dns_client.proofs.Writing.{cut_at, has_room, label_appended, label_refused, last_label, no_end, not_cut}
use Rattle.dns_client.proofs.text.name_of.Goals as goal

pub returns-then-not-push_label : goal.returns-then-not-push_label
returns-then-not-push_label c =
    let rest = c.loop-len.rest.now in
    let cut = cut_at rest c.in-Some.len (sym c.in-Some.is ∙ c.dot_in.ensures) in
    let none : has_room c.loop-len.name.items (take c.in-Some.len rest) ≡ false = search rules in
    label_refused c.loop-len.name.items (take c.in-Some.len rest) (slice_split is_dot (drop (c.in-Some.len + 1) rest)) none
    ∙ ap (name_by c.loop-len.name.items) (sym cut.1) ∙ c.loop-len.invariant

pub loop-len-preserved : goal.loop-len-preserved
loop-len-preserved c =
    let rest = c.loop-len.rest.now in
    let cut = cut_at rest c.in-Some.len (sym c.in-Some.is ∙ c.dot_in.ensures) in
    let some : has_room c.loop-len.name.items (take c.in-Some.len rest) ≡ true = search rules in
    let is = (and_parts _ _ some).0 in
    let named : c.push_label.new.name.items ≡ c.loop-len.name.items ++ length (take c.in-Some.len rest) ∷ take c.in-Some.len rest = search rules in
    ap (λ (xs : List ℕ). name_by c.push_label.new.name.items (slice_split is_dot xs)) (take_rest rest (c.in-Some.len + 1))
    ∙ ap (λ (xs : List ℕ). name_by xs (slice_split is_dot (drop (c.in-Some.len + 1) rest))) named
    ∙ label_appended c.loop-len.name.items (take c.in-Some.len rest) (slice_split is_dot (drop (c.in-Some.len + 1) rest)) is
    ∙ ap (name_by c.loop-len.name.items) (sym cut.1) ∙ c.loop-len.invariant

pub returns-then-not-push_label-2 : goal.returns-then-not-push_label-2
returns-then-not-push_label-2 c =
    let rest = c.loop-len.rest.now in
    let whole = not_cut rest (sym c.in_default.is ∙ c.dot_in.ensures) in
    let none : has_room c.loop-len.name.items rest ≡ false = search rules in
    label_refused c.loop-len.name.items rest [] none ∙ ap (name_by c.loop-len.name.items) (sym whole) ∙ c.loop-len.invariant

pub returns-then-is_err : goal.returns-then-is_err
returns-then-is_err c =
    let rest = c.loop-len.rest.now in
    let whole = not_cut rest (sym c.in_default.is ∙ c.dot_in.ensures) in
    let named : c.push_label-2.new.name.items ≡ c.loop-len.name.items ++ length rest ∷ rest = search rules in
    let full : length c.push_label-2.new.name.items ≡ 255 = search rules in
    no_end c.loop-len.name.items rest (ap length (sym named) ∙ full) ∙ ap (name_by c.loop-len.name.items) (sym whole) ∙ c.loop-len.invariant

pub returns : goal.returns
returns c =
    let rest = c.loop-len.rest.now in
    let whole = not_cut rest (sym c.in_default.is ∙ c.dot_in.ensures) in
    let some : has_room c.loop-len.name.items rest ≡ true = search rules in
    let named : c.push_label-2.new.name.items ≡ c.loop-len.name.items ++ length rest ∷ rest = search rules in
    let few : length c.push_label-2.new.name.items < 255 = search rules in
    let ended : c.try_push.new.self.items ≡ c.push_label-2.new.name.items ++ 0 ∷ [] = search rules in
    ap Some (ended ∙ ap (λ (xs : List ℕ). xs ++ 0 ∷ []) named)
    ∙ last_label c.loop-len.name.items rest (and_parts _ _ some).0 (rw (sym named) few)
    ∙ ap (name_by c.loop-len.name.items) (sym whole) ∙ c.loop-len.invariant
