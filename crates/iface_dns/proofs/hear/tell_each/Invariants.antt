use Rattle.std.proofs.Common.{◌≡◌, ◌-◌}
use Rattle.iface_dns.specs.Hear.{failed}
use Rattle.iface_dns.proofs.hear.tell_each.Given as goal

-- what the others make of it, all make of it
abbrev pub invariant-loop-place : goal.invariant-loop-place
invariant-loop-place l =
    failed l.server (l.places - l.place) l.place l.resolver ≡ failed l.server l.places 0 l.initial.resolver
