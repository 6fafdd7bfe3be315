use Rattle.std.proofs.Common.{◌≡◌, None, drop}
use Rattle.dns_client.specs.DnsResolver.Resolver.{earliest}
use Rattle.dns_client.proofs.dns_resolver.places.earliest.Given as goal

abbrev pub invariant-loop-place : goal.invariant-loop-place
invariant-loop-place l = earliest l.servers l.least (drop l.place-index l.places) ≡ earliest l.servers None l.places
