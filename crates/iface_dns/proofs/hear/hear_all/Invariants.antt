use Rattle.std.proofs.Common.{ℕ, ◌-◌}
use Rattle.dns_client.specs.DnsResolver.Places.{Queries}
use Rattle.iface_host.specs.declared.host.IfaceHost.{IfaceHost}
use Rattle.iface_dns.specs.Hear.{HearsAll}
use Rattle.iface_dns.proofs.hear.hear_all.Given as goal

-- whatever the others lead to, all lead to
abbrev pub invariant-loop : goal.invariant-loop
invariant-loop l = (r : Queries) (host : IfaceHost) → HearsAll l.number l.port (l.count - l.counter) l.resolver r l.host host →
    HearsAll l.number l.port l.count l.initial.resolver r l.initial.host host
