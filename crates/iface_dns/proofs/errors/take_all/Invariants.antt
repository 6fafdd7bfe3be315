use Rattle.std.proofs.Common.{ℕ, ◌-◌}
use Rattle.dns_client.specs.DnsResolver.Places.{Queries}
use Rattle.iface_host.specs.declared.host.IfaceHost.{IfaceHost}
use Rattle.iface_dns.specs.Errors.{TakesErrors}
use Rattle.iface_dns.proofs.errors.take_all.Given as goal

-- whatever the others lead to, all lead to
abbrev pub invariant-loop : goal.invariant-loop
invariant-loop l = (r : Queries) (host : IfaceHost) → TakesErrors l.port l.place (l.count - l.counter) l.resolver r l.host host →
    TakesErrors l.port l.place l.count l.initial.resolver r l.initial.host host
