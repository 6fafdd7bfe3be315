use Rattle.std.proofs.Common.{◌≡◌, ◌≤◌, length}
use Rattle.tcp_sockets.specs.Destinations.{last_of}
use Rattle.tcp_sockets.proofs.destinations.drop_first.Given as goal

abbrev pub invariant-loop-addresses : goal.invariant-loop-addresses
invariant-loop-addresses l =
    (last_of l.count l.addresses.items ≡ last_of l.count l.initial.addresses.items)
    × (length l.addresses.items ≤ length l.initial.addresses.items)

abbrev pub decreases-loop-addresses : goal.decreases-loop-addresses
decreases-loop-addresses l = length l.addresses.items
