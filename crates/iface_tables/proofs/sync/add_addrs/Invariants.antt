use Rattle.std.proofs.Common.{◌≡◌, ◌≤◌, drop, length}
use Rattle.iface_tables.specs.Sync.{with_addrs}
use Rattle.iface_tables.proofs.sync.add_addrs.Given as goal

abbrev pub invariant-loop-prefix : goal.invariant-loop-prefix
invariant-loop-prefix l = record {
  list : with_addrs l.room l.hardware_addr l.now (drop l.prefix-index l.prefixes) l.own.items
      ≡ with_addrs l.room l.hardware_addr l.now l.prefixes l.fn.own.items;
  fits : length l.own.items ≤ l.room;
}
