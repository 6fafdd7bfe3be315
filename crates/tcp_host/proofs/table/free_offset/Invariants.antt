use Rattle.std.proofs.Common.{◌≤◌, ◌+◌, take}
use Rattle.std.specs.List.{count_by}
use Rattle.tcp_host.specs.Details.Cells.{is_used}
use Rattle.tcp_host.proofs.table.free_offset.Given as goal

abbrev pub invariant-loop-offset : goal.invariant-loop-offset
invariant-loop-offset l = l.offset ≤ count_by is_used (take (l.first + l.offset) l.cells)
