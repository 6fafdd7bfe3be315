use Rattle.std.proofs.Common.{◌≡◌, ◌+◌, ◌<◌, ◌^◌, length, map}
use Rattle.socket_set.specs.SocketSet.{pairs_from}
use Rattle.socket_set.proofs.iter.IterOfIterator.next.Given as goal

-- only free places were passed over
abbrev pub invariant-loop-place : goal.invariant-loop-place
invariant-loop-place g l =
    (l.self-inside.next + length l.self-inside.places.now < 2 ^ 64)
    × (pairs_from l.self-inside.next (map (λ p. p.socket) l.self-inside.places.now) ≡ l.fn.self)

abbrev pub decreases-loop-place : goal.decreases-loop-place
decreases-loop-place g l = length l.self-inside.places.now
