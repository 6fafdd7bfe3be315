use Rattle.std.proofs.Common.{◌≡◌, ◌++◌, drop}
use Rattle.std.specs.List.{flat_map}
use Rattle.ip_wire.specs.HopByHop.{option_text, text}
use Rattle.ip_wire.proofs.hop_by_hop.Ipv6HopByHopRepr.emit.Given as goal

abbrev pub invariant-loop-option : goal.invariant-loop-option
invariant-loop-option l = l.out ++ flat_map option_text (drop l.option-index l.self.options.items) ≡ l.fn.out ++ text l.self
