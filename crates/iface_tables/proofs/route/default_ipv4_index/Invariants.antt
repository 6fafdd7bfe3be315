use Rattle.std.proofs.Common.{◌≡◌, ◌+◌, drop}
use Rattle.std.specs.List.{position_or_len}
use Rattle.iface_tables.specs.Route.{is_ipv4_gateway}
use Rattle.iface_tables.proofs.route.default_ipv4_index.Given as goal

abbrev pub invariant-loop-i : goal.invariant-loop-i
invariant-loop-i l = l.i + position_or_len is_ipv4_gateway (drop l.i l.routes) ≡ position_or_len is_ipv4_gateway l.routes
