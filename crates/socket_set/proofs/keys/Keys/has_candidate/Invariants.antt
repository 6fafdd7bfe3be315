use Rattle.std.proofs.Common.{◌≡◌, ℕ, ◌+◌, ◌<◌, ◌≤◌, false}
use Rattle.std.specs.Prelude.{◌≢◌}
use Rattle.socket_set.specs.Details.Keys.{is_candidate}
use Rattle.socket_set.proofs.keys.Keys.has_candidate.Given as goal

-- none so far, unless the least is 0
abbrev pub invariant-loop-at : goal.invariant-loop-at
invariant-loop-at l = l.least ≢ 0 → (i : ℕ) → l.from ≤ i → i < l.from + l.at → is_candidate l.self-inside.keys l.key i ≡ false
