use Rattle.std.proofs.Common.{◌≡◌, ◌+◌, drop, map}
use Rattle.socket_set.specs.SocketSet.{first_free}
use Rattle.socket_set.proofs.socket_set.first_free.Given as goal

abbrev pub invariant-loop-i : goal.invariant-loop-i
invariant-loop-i g l = l.i + first_free (map (λ p. p.socket) (drop l.i l.places)) ≡ first_free (map (λ p. p.socket) l.places)
