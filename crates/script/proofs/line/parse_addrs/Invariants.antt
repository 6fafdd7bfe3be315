use Rattle.std.proofs.Common.{◌≡◌, ◌++◌, length, map}
use Rattle.std.specs.List.{slice_split}
use Rattle.script.specs.Text.{is_space, network_in, parts_of}
use Rattle.script.proofs.line.parse_addrs.Given as goal

abbrev pub invariant-loop : goal.invariant-loop
invariant-loop l =
    (map network_in (slice_split is_space l.words) ≡ map parts_of l.list.items ++ map network_in (slice_split is_space l.left))
    × (length l.list.items ≡ l.counter)
