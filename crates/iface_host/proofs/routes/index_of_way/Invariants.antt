use Rattle.std.proofs.Common.{◌≡◌, ◌+◌, drop}
use Rattle.std.specs.List.{position_or_len}
use Rattle.iface_host.specs.Calls.{is_way}
use Rattle.iface_host.proofs.routes.index_of_way.Given as goal

abbrev pub invariant-loop-i : goal.invariant-loop-i
invariant-loop-i l = l.i + position_or_len (is_way l.network l.router) (drop l.i l.list) ≡ position_or_len (is_way l.network l.router) l.list
