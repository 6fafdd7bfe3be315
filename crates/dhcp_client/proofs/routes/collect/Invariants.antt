use Rattle.std.proofs.Common.{◌≡◌, ◌≤◌, ◌++◌, length}
use Rattle.dhcp_client.specs.Details.Routes.{routes_after, usable, in_eight}
use Rattle.dhcp_client.proofs.routes.collect.Given as goal

abbrev pub invariant-loop-len : goal.invariant-loop-len
invariant-loop-len l =
    (in_eight (l.routes.items ++ usable l.own (routes_after 0 l.rest)) ≡ in_eight (l.initial.routes.items ++ usable l.own (routes_after 0 l.octets)))
    × (length l.routes.items ≤ 8)

abbrev pub decreases-loop-len : goal.decreases-loop-len
decreases-loop-len l = length l.rest
