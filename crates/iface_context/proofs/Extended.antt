-- A list that is put into an empty array with room for it.
use Rattle.std.proofs.Common.{◌≡◌, ◌≤◌, ◌+◌, ℕ, List, [], ◌++◌, length, ap, ◌∙◌, arith}
use Rattle.std.specs.Prelude.{Result, Ok, Err, IsOk, OnOk, ◌↔◌}

ok_holds : {A E P : Type 0} (r : Result A E) → IsOk r → OnOk r P → P
ok_holds (Ok x) is h = h
ok_holds (Err e) is h = cc

pub extended : {A B E : Type 0} (r : Result B E) (old new list : List A) (room cap : ℕ) → old ≡ [] → length list ≤ room → room ≤ cap →
    (IsOk r ↔ (length old + length list ≤ cap)) → OnOk r (new ≡ old ++ list) → new ≡ list
extended r old new list room cap empty few within when is =
    let none : length old ≡ 0 = ap length empty in
    ok_holds r (when.1 (omega arith)) is ∙ ap (λ xs. xs ++ list) empty
