use Rattle.std.proofs.Common.{◌≡◌, ◌+◌, drop}
use Rattle.std.specs.List.{position_or_len}
use Rattle.iface_host.specs.Leased.{is_by}
use Rattle.iface_host.proofs.leased.index_of_router.Given as goal

abbrev pub invariant-loop-i : goal.invariant-loop-i
invariant-loop-i l = l.i + position_or_len (is_by l.router) (drop l.i l.routes) ≡ position_or_len (is_by l.router) l.routes
