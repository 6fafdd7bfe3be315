-- The solicited-node groups of a host's addresses (RFC 4291 2.7.1, RFC 4861 7.2.1).
use Rattle.std.specs.Prelude.{ℕ, ◌/◌, ◌^◌, ◌==◌, ◌&&◌, not, Bool, false, List, [], ◌∷◌, map, filter}
use Rattle.ip_address.specs.declared.cidr.IpCidr.{IpCidr}
use Rattle.ip_address.specs.declared.cidr.IpCidr.TheVariants as cidr
use Rattle.ip_address.specs.declared.hardware.HardwareAddress.{HardwareAddress}
use Rattle.ip_address.specs.declared.hardware.HardwareAddress.TheVariants as hardware
use Rattle.ip_address.specs.declared.ip.IpAddress.{IpAddress}
use Rattle.ip_address.specs.declared.ip.IpAddress.TheVariants.{Ipv4, Ipv6}
use Rattle.ip_address.specs.declared.ipv6.Ipv6Address.{Ipv6Address}
use Rattle.ip_address.specs.Ipv6.{solicited_node}
use Rattle.iface_tables.specs.declared.groups.Group.{Group}
use Rattle.iface_tables.specs.Groups.{groups_after_join, groups_after_leave}
use Rattle.host_machine.specs.Context.Addresses.{has_solicited_node}

-- a solicited-node group, of whatever address (RFC 4291 2.7.1): in ff02::1:ff00:0/104
abbrev pub is_solicited_node_v6 : Ipv6Address → Bool
is_solicited_node_v6 a = a.bits / 2 ^ 24 == 0xff02_0000_0000_0000_0000_0001_ff

-- a solicited-node group that matches no address of the host
abbrev pub is_unneeded_group : List IpCidr → IpAddress → Bool
is_unneeded_group own (Ipv4 a) = false
is_unneeded_group own (Ipv6 a) = is_solicited_node_v6 a && not (has_solicited_node own a)

-- several groups are left, one after another
abbrev pub groups_after_leaves : List Group → List IpAddress → List Group
groups_after_leaves groups [] = groups
groups_after_leaves groups (a ∷ addresses) = groups_after_leaves (groups_after_leave groups a) addresses

-- the solicited-node group of each IPv6 address is joined, in their order, if there is room for it
abbrev pub groups_after_joins : ℕ → List Group → List IpCidr → List Group
groups_after_joins room groups [] = groups
groups_after_joins room groups (cidr.Ipv4 n ∷ own) = groups_after_joins room groups own
groups_after_joins room groups (cidr.Ipv6 n ∷ own) =
    groups_after_joins room (groups_after_join room groups (Ipv6 (solicited_node n.address))) own

-- the groups of a host with these addresses, where there is room for so many. On a link with hardware addresses the
-- solicited-node groups that match none of them are left, in the order of the table; then those of the addresses are
-- joined (RFC 4861 7.2.1)
abbrev pub groups_for : HardwareAddress → List IpCidr → ℕ → List Group → List Group
groups_for (hardware.Ethernet e) own room groups =
    let needed = groups_after_leaves groups (filter (is_unneeded_group own) (map (λ (g : Group). g.addr) groups)) in
    groups_after_joins room needed own
groups_for hardware.Ip own room groups = groups
