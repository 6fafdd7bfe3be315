use Rattle.std.proofs.Common.{◌≡◌, ◌+◌, ◌*◌, ◌≤◌, ◌++◌, length, take, drop}
use Rattle.std.specs.List.{flat_map}
use Rattle.tcp_wire.specs.Options.{range_text, ranges_of}
use Rattle.tcp_wire.proofs.options.append_ranges.Given as goal

abbrev pub invariant-loop-range : goal.invariant-loop-range
invariant-loop-range l = record {
  items : l.out ++ flat_map range_text (take l.left (ranges_of (drop l.range-index l.ranges)))
      ≡ l.fn.out ++ flat_map range_text (take l.count (ranges_of l.ranges));
  room : length l.out + 8 * l.left ≤ 40;
}
