use Rattle.std.proofs.Common.{◌≡◌, ℕ, ◌<◌, ◌≤◌, false}
use Rattle.socket_set.specs.Details.Keys.{is_candidate}
use Rattle.socket_set.proofs.keys.Keys.search.Given as goal

-- no place so far is a candidate
abbrev pub invariant-loop-index : goal.invariant-loop-index
invariant-loop-index l = (l.fn.from ≤ l.index) × ((i : ℕ) → l.fn.from ≤ i → i < l.index → is_candidate l.self l.key i ≡ false)
