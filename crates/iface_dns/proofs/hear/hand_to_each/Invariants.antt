use Rattle.std.proofs.Common.{◌≡◌, ◌-◌}
use Rattle.iface_dns.specs.Hear.{handed}
use Rattle.iface_dns.proofs.hear.hand_to_each.Given as goal

-- what the others make of it, all make of it
abbrev pub invariant-loop-place : goal.invariant-loop-place
invariant-loop-place l =
    handed l.from l.port l.octets (l.count - l.place) l.place l.resolver ≡ handed l.from l.port l.octets l.count 0 l.initial.resolver
