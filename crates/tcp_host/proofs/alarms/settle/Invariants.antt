use Rattle.std.proofs.Common.{◌≡◌, ◌+◌, ◌/◌, ◌≤◌, ◌<◌, ℕ, List, length, drop}
use Rattle.tcp_host.specs.Alarms.{IsTournamentBut}
use Rattle.tcp_host.proofs.alarms.settle.Given as goal

pub record Settling (places node : ℕ) (nodes first : List ℕ) : Type 0 where
  pub len : length nodes ≡ places + places
  pub some : 1 ≤ node
  pub within : node < places + places
  pub others : IsTournamentBut places (node / 2) nodes
  pub kept : drop places nodes ≡ drop places first

abbrev pub invariant-loop-node : goal.invariant-loop-node
invariant-loop-node l = Settling l.places l.node l.nodes l.fn.nodes

abbrev pub decreases-loop-node : goal.decreases-loop-node
decreases-loop-node l = l.node
