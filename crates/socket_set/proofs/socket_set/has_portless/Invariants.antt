use Rattle.std.proofs.Common.{ℕ, ◌<◌, false}
use Rattle.socket_set.specs.SocketSet.{over, socket_at}
use Rattle.socket_set.proofs.SocketSetLemmas.{HasPort}
use Rattle.socket_set.proofs.socket_set.has_portless.Given as goal

-- the sockets so far have ports
abbrev pub invariant-loop-index : goal.invariant-loop-index
invariant-loop-index g l = (i : ℕ) → i < l.index → HasPort false 0 (socket_at (over l.places false 0) i)
