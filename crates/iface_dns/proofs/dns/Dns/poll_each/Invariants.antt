use Rattle.std.proofs.Common.{◌-◌}
use Rattle.iface_host.specs.declared.host.IfaceHost.{IfaceHost}
use Rattle.iface_dns.specs.Poll.{PollsFrom}
use Rattle.iface_dns.specs.declared.dns.Dns.{Dns}
use Rattle.iface_dns.proofs.dns.Dns.poll_each.Given as goal

-- whatever the others lead to, all lead to
abbrev pub invariant-loop-place : goal.invariant-loop-place
invariant-loop-place l = (d : Dns) (host : IfaceHost) → PollsFrom l.now (l.count - l.place) l.place l.self d l.host host →
    PollsFrom l.now l.count 0 l.initial.self d l.initial.host host
