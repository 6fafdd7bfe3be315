use Rattle.std.proofs.Common.{◌≡◌, drop}
use Rattle.iface_tables.specs.Neighbor.{expiring_at}
use Rattle.iface_tables.proofs.neighbor.expiring_at.Given as goal

abbrev pub invariant-loop-e : goal.invariant-loop-e
invariant-loop-e l = expiring_at l.end l.left (drop l.e-index l.entries) ≡ expiring_at l.end l.others l.entries
