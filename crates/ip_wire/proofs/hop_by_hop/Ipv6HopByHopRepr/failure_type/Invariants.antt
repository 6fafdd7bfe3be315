use Rattle.std.proofs.Common.{◌≡◌, drop}
use Rattle.ip_wire.specs.HopByHop.{first_failure}
use Rattle.ip_wire.proofs.hop_by_hop.Ipv6HopByHopRepr.failure_type.Given as goal

abbrev pub invariant-loop-option : goal.invariant-loop-option
invariant-loop-option l = first_failure l.self.options.items ≡ first_failure (drop l.option-index l.self.options.items)
