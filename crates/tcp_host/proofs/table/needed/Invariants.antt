use Rattle.std.proofs.Common.{◌≡◌, ◌+◌, ◌<◌, ◌≤◌, ℕ, List}
use Rattle.std.specs.Prelude.{get_or}
use Rattle.tcp_host.proofs.table.needed.Given as goal

pub record Needing (left first reach : ℕ) (cells : List ℕ) : Type 0 where
  pub less : left ≤ reach
  pub empty : (k : ℕ) → left ≤ k → k < reach → get_or cells (first + k) 0 ≡ 0

abbrev pub invariant-loop-left : goal.invariant-loop-left
invariant-loop-left l = Needing l.left l.first l.reach l.cells

abbrev pub decreases-loop-left : goal.decreases-loop-left
decreases-loop-left l = l.left
