use Rattle.std.proofs.Common.{◌+◌}
use Rattle.fragmentation.specs.Slots.{Slots}
use Rattle.host_machine.specs.Interface.Due.{IsLeast}
use Rattle.iface_context.specs.Stands.{host_in}
use Rattle.iface_sockets.specs.Polling.{DueBefore}
use Rattle.iface_sockets.proofs.polling.pass_run.Given as goal

-- the least of the sockets so far
abbrev pub invariant-loop-index : goal.invariant-loop-index
invariant-loop-index l =
    (slots : Slots) → IsLeast (DueBefore (host_in l.fn.context slots l.fn.sockets) (l.fn.first + 1)) l.fn.least →
    IsLeast (DueBefore (host_in l.fn.context slots l.fn.sockets) l.index) l.sooner
