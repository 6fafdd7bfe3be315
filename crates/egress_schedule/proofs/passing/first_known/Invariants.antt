use Rattle.std.proofs.Common.{◌≡◌, ◌+◌, drop}
use Rattle.sockets.specs.Kinds.{destinations}
use Rattle.egress_schedule.specs.Passing.{before_first}
use Rattle.egress_schedule.proofs.passing.first_known.Given as goal

-- none of those before is for such an address
abbrev pub invariant-loop-index : goal.invariant-loop-index
invariant-loop-index g l =
    before_first (g.N.Neighbors.knows l.neighbors) (destinations l.socket) ≡ l.index + before_first (g.N.Neighbors.knows l.neighbors) (drop l.index (destinations l.socket))
