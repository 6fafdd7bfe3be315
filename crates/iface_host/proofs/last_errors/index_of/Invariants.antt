use Rattle.std.proofs.Common.{◌≡◌, ◌+◌, drop}
use Rattle.std.specs.List.{position_or_len}
use Rattle.iface_host.specs.LastErrors.{is_about}
use Rattle.iface_host.proofs.last_errors.index_of.Given as goal

abbrev pub invariant-loop-i : goal.invariant-loop-i
invariant-loop-i l =
    l.i + position_or_len (is_about l.protocol l.port) (drop l.i l.kept) ≡ position_or_len (is_about l.protocol l.port) l.kept
