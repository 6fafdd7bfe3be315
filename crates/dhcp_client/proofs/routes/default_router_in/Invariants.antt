use Rattle.std.proofs.Common.{◌≡◌, length}
use Rattle.dhcp_client.specs.Details.Routes.{default_in}
use Rattle.dhcp_client.proofs.routes.default_router_in.Given as goal

abbrev pub invariant-loop-len : goal.invariant-loop-len
invariant-loop-len l = default_in l.rest ≡ default_in l.octets

abbrev pub decreases-loop-len : goal.decreases-loop-len
decreases-loop-len l = length l.rest
