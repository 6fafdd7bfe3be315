use Rattle.std.proofs.Common.{ℕ, ◌<◌}
use Rattle.fragmentation.specs.Slots.{Slots}
use Rattle.iface_context.specs.Stands.{host_in}
use Rattle.iface_sockets.specs.Turns.{HasIdleTurn}
use Rattle.iface_sockets.proofs.turns.next_behind_run.Given as goal

-- the turns of the sockets so far come to nothing
abbrev pub invariant-loop-index : goal.invariant-loop-index
invariant-loop-index l = (slots : Slots) (i : ℕ) → l.fn.served < i → i < l.index → HasIdleTurn (host_in l.fn.context slots l.fn.sockets) i
