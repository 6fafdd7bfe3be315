use Rattle.std.proofs.Common.{◌≡◌, ◌+◌, drop}
use Rattle.std.specs.List.{position_or_len}
use Rattle.guard.specs.Pins.{is_of}
use Rattle.guard.proofs.pins.place_of.Given as goal

abbrev pub invariant-loop-i : goal.invariant-loop-i
invariant-loop-i l = l.i + position_or_len (is_of l.address) (drop l.i l.pairs) ≡ position_or_len (is_of l.address) l.pairs
