-- The least of many instants.
use Rattle.std.specs.Prelude.{◌≡◌, ℕ, ◌+◌, ◌*◌, ◌≤◌, ◌<◌, ◌≢◌, min, List, length, get_or}

-- one of them, and none is less
pub record IsLeast (instants : List ℕ) (least : ℕ) : Type 0 where
  pub below : (i : ℕ) → i < length instants → least ≤ get_or instants i 0
  pub one : (i : ℕ) × (i < length instants) × (get_or instants i 0 ≡ least)

-- the instants stand in the second half, and each node before them is the lesser of the two at twice its place
abbrev pub IsLesser : ℕ → List ℕ → Type 0
IsLesser node nodes = get_or nodes node 0 ≡ min (get_or nodes (2 * node) 0) (get_or nodes (2 * node + 1) 0)

abbrev pub IsTournament : ℕ → List ℕ → Type 0
IsTournament places nodes = (node : ℕ) → 1 ≤ node → node < places → IsLesser node nodes

-- it is but for one node
abbrev pub IsTournamentBut : ℕ → ℕ → List ℕ → Type 0
IsTournamentBut places other nodes = (node : ℕ) → 1 ≤ node → node < places → node ≢ other → IsLesser node nodes

-- the one of the two nodes below another that has the lesser instant
pub record IsLesserChild (node : ℕ) (nodes : List ℕ) (child : ℕ) : Type 0 where
  pub from : 2 * node ≤ child
  pub to : child ≤ 2 * node + 1
  pub lesser : get_or nodes child 0 ≡ min (get_or nodes (2 * node) 0) (get_or nodes (2 * node + 1) 0)
