use Rattle.std.proofs.Common.{◌≡◌, drop}
use Rattle.std.specs.FinMap.{find}
use Rattle.ip_address.specs.Ip.{address_cmp}
use Rattle.iface_tables.proofs.neighbor.find_among.Given as goal

abbrev pub invariant-loop-e : goal.invariant-loop-e
invariant-loop-e l = find address_cmp l.address (drop l.e-index l.entries) ≡ find address_cmp l.address l.entries
