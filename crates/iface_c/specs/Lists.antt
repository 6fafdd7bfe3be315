-- Own addresses as C writes all of them, and the link-local address of a hardware address.
use Rattle.std.specs.Prelude.{ℕ, ◌≡◌, ◌*◌, ◌^◌, nat_lt, List, [], ◌∷◌, length, Option, Some, None, if◌then◌else◌}
use Rattle.std.specs.Option.{option_and_then, option_map}
use Rattle.std.proofs.Common.{lit≤}
use Rattle.ip_address.specs.EthernetAddress.{is_unicast}
use Rattle.ip_address.specs.LinkPrefix.{cidr_with_identifier}
use Rattle.ip_address.specs.declared.cidr.IpCidr.{IpCidr}
use Rattle.ip_address.specs.declared.cidr.Ipv6Cidr.{Ipv6Cidr}
use Rattle.ip_address.specs.declared.ethernet_address.EthernetAddress.{EthernetAddress}
use Rattle.ip_address.specs.declared.ip.IpAddress.TheVariants.{Ipv6}
use Rattle.iface_host.specs.TableRefusals.{addresses_refusal}
use Rattle.iface_host.specs.declared.host.IfaceHost.{IfaceHost}
use Rattle.iface_host.specs.declared.refusal.Refusal.{Refusal}
use Rattle.iface_host.specs.declared.refusal.Refusal.TheVariants.{NotUnicast}
use Rattle.iface_c.specs.Addresses.{address_for_c, cidr_in}
use Rattle.iface_c.specs.Status.{code_with}
use Rattle.iface_c.specs.declared.addresses.IfaceAddress.{IfaceAddress}
use Rattle.iface_c.specs.declared.lists.IfaceCidr.{IfaceCidr}

-- the networks of a list, if each is one
abbrev pub cidrs_in : List IfaceCidr → Option (List IpCidr)
cidrs_in [] = Some []
cidrs_in (c ∷ cs) =
    option_and_then (λ (one : IpCidr). option_map (λ (others : List IpCidr). one ∷ others) (cidrs_in cs))
    (cidr_in c.address c.prefix_len)

-- the code of a call that makes a list the own addresses: 10 where it has more than sixteen; else as that of each other call
abbrev pub code_for_list : List IfaceCidr → Option IfaceHost → ℕ
code_for_list list host =
    if nat_lt 16 (length list) then 10 else code_with (λ own it. addresses_refusal it own) (cidrs_in list) host

-- fe80::/64, the network of link-local addresses (RFC 4291 2.5.6)
abbrev pub link_local : Ipv6Cidr
link_local = record { address = record { bits = 0xfe80 * 2 ^ 112 }; prefix_len = 64; in_range = lit≤ tt }

-- the link-local address with the identifier of a hardware address was written (RFC 4291 2.5.1 and appendix A)
abbrev pub ShowsLinkLocal : EthernetAddress → IfaceAddress → Type 0
ShowsLinkLocal hardware shown = shown ≡ address_for_c (Ipv6 (cidr_with_identifier link_local hardware).address)

-- a hardware address has none: it is a group's
abbrev pub link_local_refusal : EthernetAddress → Option Refusal
link_local_refusal hardware = if is_unicast hardware then None else Some NotUnicast
