use Rattle.std.proofs.Common.{ℕ, ◌<◌}
use Rattle.std.specs.Prelude.{IsSome}
use Rattle.socket_set.specs.SocketSet.{socket_at}
use Rattle.iface_host.proofs.opening.has_free_place.Given as goal

abbrev pub invariant-loop-index : goal.invariant-loop-index
invariant-loop-index l = (k : ℕ) → k < l.index → IsSome (socket_at l.sockets k)
