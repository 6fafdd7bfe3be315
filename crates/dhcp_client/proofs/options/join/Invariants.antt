use Rattle.std.proofs.Common.{◌≡◌, ◌≤◌, ◌++◌, length}
use Rattle.dhcp_client.specs.Options.{options_after, joined, in_room}
use Rattle.dhcp_client.proofs.options.join.Given as goal

abbrev pub invariant-loop-len : goal.invariant-loop-len
invariant-loop-len l =
    (in_room (l.found.items ++ joined l.code (options_after 0 l.rest)) ≡ in_room (l.initial.found.items ++ joined l.code (options_after 0 l.octets)))
    × (length l.found.items ≤ 256)

abbrev pub decreases-loop-len : goal.decreases-loop-len
decreases-loop-len l = length l.rest
