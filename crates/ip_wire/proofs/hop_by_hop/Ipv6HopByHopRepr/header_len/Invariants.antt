use Rattle.std.proofs.Common.{◌≡◌, ◌+◌, ◌*◌, ◌≤◌, drop, length}
use Rattle.std.specs.List.{flat_map}
use Rattle.ip_wire.specs.HopByHop.{option_text, text_len}
use Rattle.ip_wire.proofs.hop_by_hop.Ipv6HopByHopRepr.header_len.Given as goal

abbrev pub invariant-loop-option : goal.invariant-loop-option
invariant-loop-option l = (l.len + length (flat_map option_text (drop l.option-index l.self.options.items)) ≡ text_len l.self)
    × (l.len ≤ 2 + 257 * l.option-index)
