-- The source address of a packet to an IPv6 destination (RFC 6724 5). A host with one interface, no deprecated or
-- temporary addresses and no policy table compares its addresses by rules 1, 2 and 8.
use Rattle.std.specs.Prelude.{ℕ, Bool, true, false, not, ◌==◌, ◌&&◌, ◌||◌, nat_lt}
use Rattle.std.specs.Prelude.{List, [], ◌∷◌, Option, Some, None, if◌then◌else◌}
use Rattle.std.specs.List.{list_any}
use Rattle.ip_address.specs.declared.ipv6.Ipv6Address.{Ipv6Address}
use Rattle.ip_address.specs.declared.cidr.Ipv6Cidr.{Ipv6Cidr}
use Rattle.ip_address.specs.declared.cidr.IpCidr.{IpCidr}
use Rattle.ip_address.specs.declared.cidr.IpCidr.TheVariants as cidr
use Rattle.ip_address.specs.Ipv6.{is_link_local, is_loopback, is_unspecified, scope_of}
use Rattle.ip_address.specs.Prefixes.{common_bits}

-- ::1
abbrev pub loopback : Ipv6Address
loopback = record { bits = 1 }

-- rule 1: the address is the destination, and the other one isn't
abbrev pub is_same_alone : Ipv6Address → Ipv6Address → Ipv6Address → Bool
is_same_alone a b d = (a.bits == d.bits) && not (b.bits == d.bits)

-- rule 2: the smaller scope that reaches the destination's, or else the larger one
abbrev pub has_better_scope : ℕ → ℕ → ℕ → Bool
has_better_scope a b d = (nat_lt a b && not (nat_lt a d)) || (nat_lt b a && nat_lt b d)

-- rule 8: the number of leading bits that it shares with the destination, at most its own prefix length
abbrev pub common_prefix_len : Ipv6Cidr → Ipv6Address → ℕ
common_prefix_len c d = common_bits 128 c.address.bits d.bits c.prefix_len

-- whether an address of the host is preferred to another one for a destination: by the first rule
-- that distinguishes them
abbrev pub is_preferred : Ipv6Cidr → Ipv6Cidr → Ipv6Address → Bool
is_preferred a b d =
    if is_same_alone a.address b.address d then true else if is_same_alone b.address a.address d then false else
    if has_better_scope (scope_of a.address) (scope_of b.address) (scope_of d) then true else
    if has_better_scope (scope_of b.address) (scope_of a.address) (scope_of d) then false else
    nat_lt (common_prefix_len b d) (common_prefix_len a d)

-- an address of the host that may be the source: not ::, and for a link-local destination a link-local one
abbrev pub is_candidate : Ipv6Address → Ipv6Cidr → Bool
is_candidate d a = not (is_unspecified a.address) && (not (is_link_local d) || is_link_local a.address)

-- whether an address of the host, of either family, may be the source
abbrev pub is_candidate_of : Ipv6Address → IpCidr → Bool
is_candidate_of d (cidr.Ipv4 other) = false
is_candidate_of d (cidr.Ipv6 a) = is_candidate d a

-- a candidate that is preferred to another one
abbrev pub beats : Ipv6Address → Ipv6Cidr → IpCidr → Bool
beats d a (cidr.Ipv4 other) = false
beats d a (cidr.Ipv6 other) = is_candidate d other && is_preferred other a d

-- a candidate to which none of the host's addresses is preferred
abbrev pub is_best : List IpCidr → Ipv6Address → Ipv6Cidr → Bool
is_best own d a = is_candidate d a && not (list_any (beats d a) own)

-- the first best candidate in a list
abbrev pub first_best : List IpCidr → Ipv6Address → List IpCidr → Option Ipv6Address
first_best own d [] = None
first_best own d (cidr.Ipv4 other ∷ some) = first_best own d some
first_best own d (cidr.Ipv6 a ∷ some) = if is_best own d a then Some a.address else first_best own d some

-- the first IPv6 address of the host
abbrev pub ipv6_addr : List IpCidr → Option Ipv6Address
ipv6_addr [] = None
ipv6_addr (cidr.Ipv4 other ∷ own) = ipv6_addr own
ipv6_addr (cidr.Ipv6 a ∷ own) = Some a.address

-- the first address if there is one, otherwise the second, otherwise ::1
abbrev pub or_loopback : Option Ipv6Address → Option Ipv6Address → Ipv6Address
or_loopback (Some a) other = a
or_loopback None (Some a) = a
or_loopback None None = loopback

-- the source address for a destination: ::1 for the host itself; otherwise the first of the best addresses; without a
-- candidate the first IPv6 address, and ::1 if there is none
abbrev pub source_v6 : List IpCidr → Ipv6Address → Ipv6Address
source_v6 own d = if is_loopback d then loopback else or_loopback (first_best own d own) (ipv6_addr own)
