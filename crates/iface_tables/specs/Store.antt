-- Entries of a table: those that are there, and how many there is room for.
use Rattle.std.specs.Prelude.{ℕ, List, length, refl}
use Rattle.std.specs.List.{refill}
use Rattle.std.specs.Coded.{Coded, code_by, coded×, coded_ℕ, coded_list}

-- the entries in order, and how many there is room for
pub record Stored (T : Type 0) : Type 0 where
  pub items : List T
  pub room : ℕ

abbrev pub stored_code : {T : Type 0} → Coded T → Coded (Stored T)
stored_code {T} code =
    code_by (List T × ℕ) (coded× (coded_list code) coded_ℕ) (λ s. (s.items, s.room))
    (λ p. record { items = p.0; room = p.1 }) (λ _. refl)

-- the entries after a write through their slice, which keeps how many there are
abbrev pub with_items : {T : Type 0} → Stored T → List T → Stored T
with_items s xs = record s { items = refill (length s.items) s.items xs }
