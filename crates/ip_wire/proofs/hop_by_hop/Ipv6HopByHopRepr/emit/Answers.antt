use Rattle.std.proofs.Common.{◌<◌, ◌≤◌, ◌+◌, length, sym, arith}
use Rattle.ip_wire.specs.HopByHop.{text}
use Rattle.ip_wire.specs.declared.hop_by_hop.Ipv6OptionRepr.TheVariants.{Pad1}
use Rattle.ip_wire.proofs.EmittedOptions.{room}
use Rattle.ip_wire.proofs.hop_by_hop.Ipv6HopByHopRepr.emit.Goals as goal

pub emit-requires : goal.emit-requires
emit-requires c =
    let value = c.as_slice-option-items.ensures.value in
    let lt : c.loop-option.option-index < length c.args.self.now.options.items = rw (sym value) c.loop-option-test.true in
    let fits : length c.args.out.now + length (text c.args.self.now) ≤ 1514 = omega (arith, c.requires.room) in
    rw value (room c.loop-option.out c.args.out.now
    (text c.args.self.now) c.args.self.now.options.items c.loop-option.option-index Pad1 lt c.loop-option.invariant fits)
