use Rattle.std.proofs.Common.{◌≡◌, length}
use Rattle.dhcp_client.specs.Details.Routes.{are_whole}
use Rattle.dhcp_client.proofs.routes.are_whole.Given as goal

abbrev pub invariant-loop-len : goal.invariant-loop-len
invariant-loop-len l = are_whole 0 l.rest ≡ are_whole 0 l.octets

abbrev pub decreases-loop-len : goal.decreases-loop-len
decreases-loop-len l = length l.rest
