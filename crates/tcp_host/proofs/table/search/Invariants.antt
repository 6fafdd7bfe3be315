use Rattle.std.proofs.Common.{◌≡◌, ◌+◌, ◌<◌, ℕ}
use Rattle.std.specs.Prelude.{get_or, Some}
use Rattle.tcp_host.specs.Table.{ends_at}
use Rattle.tcp_host.proofs.table.search.Given as goal

abbrev pub invariant-loop-offset : goal.invariant-loop-offset
invariant-loop-offset l = (k p : ℕ) → k < l.offset → get_or l.cells (l.first + k) 0 ≡ p + 1 → ends_at l.ends p ≡ Some l.endpoints → ⊥
