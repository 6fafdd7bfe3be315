use Rattle.std.proofs.Common.{ℕ, ◌<◌, ◌≤◌, ◌*◌}
use Rattle.socket_set.specs.Details.Busy.{IsClear}
use Rattle.socket_set.proofs.busy.BusyMarks.next_word.Given as goal

-- the words so far had no mark that is set
abbrev pub invariant-loop-at : goal.invariant-loop-at
invariant-loop-at l = (i : ℕ) → 64 * l.fn.from ≤ i → i < 64 * l.at → IsClear l.self-inside.words i
