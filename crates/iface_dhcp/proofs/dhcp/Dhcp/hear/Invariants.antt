use Rattle.std.proofs.Common.{ℕ, ◌-◌}
use Rattle.iface_host.specs.declared.host.IfaceHost.{IfaceHost}
use Rattle.iface_dhcp.specs.declared.dhcp.Dhcp.{Dhcp}
use Rattle.iface_dhcp.specs.Hear.{HearsAll, Hears}
use Rattle.iface_dhcp.proofs.dhcp.Dhcp.hear.Given as goal

-- whatever the others lead to, all lead to
abbrev pub invariant-loop : goal.invariant-loop
invariant-loop l = (d : Dhcp) (host : IfaceHost) → HearsAll Hears (l.count - l.counter) l.self d l.host host →
    HearsAll Hears l.count l.initial.self d l.initial.host host
