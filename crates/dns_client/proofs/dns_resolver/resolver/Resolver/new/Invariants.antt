use Rattle.std.proofs.Common.{◌≡◌, None, replicate}
use Rattle.dns_client.proofs.dns_resolver.resolver.Resolver.new.Given as goal

abbrev pub invariant-loop : goal.invariant-loop
invariant-loop l = l.free.items ≡ replicate l.counter None
