use Rattle.std.proofs.Common.{◌≡◌, drop}
use Rattle.std.specs.Prelude.{not, ◌&&◌}
use Rattle.std.specs.List.{list_any}
use Rattle.ip_address.specs.LinkPrefix.{from_link_prefix}
use Rattle.iface_tables.specs.Slaac.{is_prefix_valid}
use Rattle.iface_tables.specs.Sync.{is_made}
use Rattle.iface_tables.proofs.sync.is_of_ended.Given as goal

abbrev pub invariant-loop-prefix : goal.invariant-loop-prefix
invariant-loop-prefix l =
    list_any (λ p. not (is_prefix_valid l.now p) && is_made (from_link_prefix p.cidr l.hardware_addr) l.cidr) (drop l.prefix-index l.prefixes)
    ≡ list_any (λ p. not (is_prefix_valid l.now p) && is_made (from_link_prefix p.cidr l.hardware_addr) l.cidr) l.prefixes
