use Rattle.std.proofs.Common.{◌≡◌, ◌+◌, drop}
use Rattle.sockets.specs.Kinds.{destinations}
use Rattle.sockets.specs.Source.{is_same}
use Rattle.egress_schedule.specs.Passing.{before_first}
use Rattle.egress_schedule.proofs.passing.first_for.Given as goal

-- none of those before is for such an address
abbrev pub invariant-loop-index : goal.invariant-loop-index
invariant-loop-index g l =
    before_first (is_same l.address) (destinations l.socket) ≡ l.index + before_first (is_same l.address) (drop l.index (destinations l.socket))
