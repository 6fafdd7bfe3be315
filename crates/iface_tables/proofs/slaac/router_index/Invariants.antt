use Rattle.std.proofs.Common.{◌≡◌, ◌+◌, drop}
use Rattle.iface_tables.specs.Slaac.{router_index}
use Rattle.iface_tables.proofs.slaac.router_index.Given as goal

abbrev pub invariant-loop-i : goal.invariant-loop-i
invariant-loop-i l = l.i + router_index (drop l.i l.routes) l.router ≡ router_index l.routes l.router
