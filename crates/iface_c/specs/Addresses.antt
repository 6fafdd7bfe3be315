-- Addresses as C writes them: a version of IP, and octets in the order of the network.
use Rattle.std.specs.Prelude.{ℕ, ◌≤◌, ◌==◌, nat_le, Bool, true, false, T, slice_index}
use Rattle.std.specs.Prelude.{[], ◌∷◌, ◌++◌, Option, Some, None, if◌then◌else◌}
use Rattle.std.specs.Option.{option_and_then, option_map}
use Rattle.std.specs.Int.{w32, w128, from_be_bytes, to_be_bytes}
use Rattle.std.proofs.Common.{lit≤}
use Rattle.ip_address.specs.Ip.{is_unspecified}
use Rattle.ip_address.specs.Ipv4.{address_of}
use Rattle.ip_address.specs.declared.ip.IpAddress.{IpAddress}
use Rattle.ip_address.specs.declared.ipv4.Ipv4Address.{Ipv4Address}
use Rattle.ip_address.specs.declared.ipv6.Ipv6Address.{Ipv6Address}
use Rattle.ip_address.specs.declared.ip.IpAddress.TheVariants.{Ipv4, Ipv6}
use Rattle.ip_address.specs.declared.cidr.IpCidr.{IpCidr}
use Rattle.ip_address.specs.declared.cidr.IpCidr.TheVariants as cidr
use Rattle.ip_address.specs.declared.protocol.IpVersion.{IpVersion}
use Rattle.ip_address.specs.declared.protocol.IpVersion.TheVariants as version
use Rattle.sockets.specs.declared.endpoint.IpEndpoint.{IpEndpoint}
use Rattle.sockets.specs.declared.endpoint.IpListenEndpoint.{IpListenEndpoint}
use Rattle.iface_c.specs.declared.addresses.IfaceAddress.{IfaceAddress}
use Rattle.iface_c.specs.declared.addresses.IfaceEndpoint.{IfaceEndpoint}

-- the address of a version, by its octets
abbrev pub address_in : IfaceAddress → Option IpAddress
address_in a =
    if a.version == 4 then Some (Ipv4
    (address_of (slice_index a.octets 0) (slice_index a.octets 1) (slice_index a.octets 2) (slice_index a.octets 3)))
    else (if a.version == 6 then Some (Ipv6 (record { bits = from_be_bytes w128 a.octets })) else None)

-- an address with a prefix of so many bits, where it has so many
abbrev pub ipv4_by : (a : Ipv4Address) (n : ℕ) (fits : Bool) → (T fits → n ≤ 32) → Option IpCidr
ipv4_by a n true h = Some (cidr.Ipv4 (record { address = a; prefix_len = n; in_range = h tt }))
ipv4_by a n false h = None

abbrev pub ipv6_by : (a : Ipv6Address) (n : ℕ) (fits : Bool) → (T fits → n ≤ 128) → Option IpCidr
ipv6_by a n true h = Some (cidr.Ipv6 (record { address = a; prefix_len = n; in_range = h tt }))
ipv6_by a n false h = None

abbrev pub network_of : IpAddress → ℕ → Option IpCidr
network_of (Ipv4 a) n = ipv4_by a n (nat_le n 32) lit≤
network_of (Ipv6 a) n = ipv6_by a n (nat_le n 128) lit≤

abbrev pub cidr_in : IfaceAddress → ℕ → Option IpCidr
cidr_in a n = option_and_then (λ (address : IpAddress). network_of address n) (address_in a)

-- an address as C reads it
abbrev pub address_for_c : IpAddress → IfaceAddress
address_for_c (Ipv4 a) =
    record { version = 4; octets = to_be_bytes w32 a.bits ++ (0 ∷ 0 ∷ 0 ∷ 0 ∷ 0 ∷ 0 ∷ 0 ∷ 0 ∷ 0 ∷ 0 ∷ 0 ∷ 0 ∷ []) }
address_for_c (Ipv6 a) = record { version = 6; octets = to_be_bytes w128 a.bits }

-- one end
abbrev pub end_in : IfaceEndpoint → Option IpEndpoint
end_in e = option_map (λ (a : IpAddress). record { addr = a; port = e.port }) (address_in e.address)

-- one end as C reads it
abbrev pub written_end : IpEndpoint → IfaceEndpoint
written_end e = record { address = address_for_c e.addr; port = e.port }

-- an address, unless it is unspecified
abbrev pub specified : IpAddress → Option IpAddress
specified a = if is_unspecified a then None else Some a

-- the end at which a socket listens: at any address, if the version is 0 or the address unspecified
abbrev pub listen_end_in : IfaceEndpoint → Option IpListenEndpoint
listen_end_in e =
    if e.address.version == 0 then Some (record { addr = None; port = e.port })
    else option_map (λ (a : IpAddress). record { addr = specified a; port = e.port }) (address_in e.address)

-- the version of IP of a number
abbrev pub version_in : ℕ → Option IpVersion
version_in n = if n == 4 then Some version.Ipv4 else (if n == 6 then Some version.Ipv6 else None)
