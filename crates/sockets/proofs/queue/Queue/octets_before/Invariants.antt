use Rattle.std.proofs.Common.{◌≡◌, take}
use Rattle.sockets.specs.Queue.{total}
use Rattle.sockets.proofs.queue.Queue.octets_before.Given as goal

-- the octets of the packets that were counted
abbrev pub invariant-loop-at : goal.invariant-loop-at
invariant-loop-at g l = l.octets ≡ total (take l.at l.self-inside.entries.items)
