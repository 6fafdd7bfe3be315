use Rattle.std.proofs.Common.{◌≡◌, ◌+◌, drop}
use Rattle.ip_address.specs.Ip.{address_cmp}
use Rattle.iface_tables.specs.Entries.{index_of}
use Rattle.iface_tables.proofs.neighbor.index_of.Given as goal

abbrev pub invariant-loop-i : goal.invariant-loop-i
invariant-loop-i l = l.i + index_of address_cmp l.address (drop l.i l.entries) ≡ index_of address_cmp l.address l.entries
