use Rattle.std.proofs.Common.{ℕ, ◌<◌, length, get_or}
use Rattle.std.specs.Prelude.{◌≤ℤ◌}
use Rattle.ip_address.specs.declared.ip.IpAddress.{IpAddress}
use Rattle.iface_tables.specs.declared.neighbor.Neighbor.{Neighbor}
use Rattle.iface_tables.proofs.neighbor.earliest.Given as goal

abbrev pub invariant-loop-i : goal.invariant-loop-i
invariant-loop-i l = record {
  within : l.least < length l.entries;
  least : (k : ℕ) (d : IpAddress × Neighbor) → k < l.i →
      (get_or l.entries l.least d).1.expires_at ≤ℤ (get_or l.entries k d).1.expires_at;
}
