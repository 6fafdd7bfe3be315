use Rattle.std.proofs.Common.{◌+◌, ◌<◌, ◌≢◌, ℕ}
use Rattle.std.specs.Prelude.{get_or}
use Rattle.tcp_host.proofs.table.offset_of.Given as goal

abbrev pub invariant-loop-offset : goal.invariant-loop-offset
invariant-loop-offset l = (k : ℕ) → k < l.offset → get_or l.cells (l.first + k) 0 ≢ l.cell
