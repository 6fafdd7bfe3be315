use Rattle.std.proofs.Common.{◌≡◌, ◌+◌, ◌≤◌, ◌<◌, ◌-◌, ℕ, List}
use Rattle.std.specs.Prelude.{get_or}
use Rattle.tcp_host.proofs.alarms.leaf_below.Given as goal

pub record Descending (places node : ℕ) (nodes : List ℕ) : Type 0 where
  pub some : 1 ≤ node
  pub within : node < places + places
  pub least : get_or nodes node 0 ≡ get_or nodes 1 0

abbrev pub invariant-loop-node : goal.invariant-loop-node
invariant-loop-node l = Descending l.places l.node l.nodes

abbrev pub decreases-loop-node : goal.decreases-loop-node
decreases-loop-node l = l.places + l.places - l.node
