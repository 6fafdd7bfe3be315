-- What a frame is to a guard, by its octets: 14 of Ethernet, then ARP (RFC 826), IPv4 (RFC 791 3.1) or IPv6 (RFC 8200 3).
use Rattle.std.specs.Prelude.{ℕ, ◌+◌, ◌*◌, ◌%◌, nat_lt, ◌==◌, ◌&&◌, ◌||◌, not, Bool, false, List, length, get_or, Option, Some, None, if◌then◌else◌}
use Rattle.ip_wire.specs.Octets.{u16_at, u32_at}
use Rattle.ip_address.specs.declared.ip.IpAddress.{IpAddress}
use Rattle.ip_address.specs.declared.ip.IpAddress.TheVariants.{Ipv4, Ipv6}
use Rattle.ip_wire.specs.Ipv6Packet.{address_at}
use Rattle.guard.specs.declared.kind.Kind.{Kind}
use Rattle.guard.specs.declared.kind.Kind.TheVariants.{Arp, Neighbor, Packet, Other}
use Rattle.guard.specs.declared.kind.Sort.{Sort}
use Rattle.guard.specs.declared.kind.Sort.TheVariants.{Fragment, Loop, Transport, Plain}

-- the octet at an offset; 0 behind the last one
abbrev pub octet_at : List ℕ → ℕ → ℕ
octet_at frame at = get_or frame at 0

abbrev pub ipv4_at : List ℕ → ℕ → IpAddress
ipv4_at frame at = Ipv4 (record { bits = u32_at frame at })

-- echo, daytime, quote and chargen (RFC 862, 867, 865, 864)
abbrev pub is_small_service : ℕ → Bool
is_small_service port = (port == 7) || (port == 13) || (port == 17) || (port == 19)

-- a datagram of UDP from such a service to a port below 1,024 (RFC 768)
abbrev pub is_loop : List ℕ → ℕ → Bool
is_loop frame at = (octet_at frame at == 0) && is_small_service (octet_at frame (at + 1)) && nat_lt (octet_at frame (at + 2)) 4

-- UDP (RFC 768) and TCP (RFC 9293)
abbrev pub is_transport : ℕ → Bool
is_transport protocol = (protocol == 6) || (protocol == 17)

-- a fragment has the flag MF or an offset (RFC 791 3.1)
abbrev pub sort_of_ipv4 : List ℕ → Sort
sort_of_ipv4 frame =
    if not (u16_at frame 20 % 0x4000 == 0) then Fragment
    else if (octet_at frame 23 == 17) && is_loop frame (14 + octet_at frame 14 % 16 * 4) then Loop
    else if is_transport (octet_at frame 23) then Transport
    else Plain

-- the header of a fragment is 44 (RFC 8200 4.5)
abbrev pub sort_of_ipv6 : List ℕ → Sort
sort_of_ipv6 frame =
    if octet_at frame 20 == 44 then Fragment
    else if (octet_at frame 20 == 17) && is_loop frame 54 then Loop
    else if is_transport (octet_at frame 20) then Transport
    else Plain

-- where a message of ICMPv6 is: next header 58, or that behind a header of hop-by-hop options (RFC 8200 4.3)
abbrev pub message_of : List ℕ → Option ℕ
message_of frame =
    if octet_at frame 20 == 58 then Some 54
    else if (octet_at frame 20 == 0) && (octet_at frame 54 == 58) then Some (62 + octet_at frame 55 * 8)
    else None

abbrev pub target_at : List ℕ → ℕ → Option IpAddress
target_at frame at = if nat_lt (length frame) (at + 16) then None else Some (Ipv6 (address_at frame at))

-- one that is cut off before the end of its header is nothing to a guard
abbrev pub packet_of_ipv6 : (sender : IpAddress) → List ℕ → Sort → Kind
packet_of_ipv6 sender frame sort = if nat_lt (length frame) 54 then Other else Packet sender sort

-- by its type (RFC 4861 4.3, 4.4)
abbrev pub kind_of_message : (type at : ℕ) → (sender : IpAddress) → List ℕ → Kind
kind_of_message type at sender frame =
    if type == 135 then Neighbor sender None
    else if type == 136 then Neighbor sender (target_at frame (at + 8))
    else packet_of_ipv6 sender frame Plain

abbrev pub kind_at : Option ℕ → (sender : IpAddress) → List ℕ → Kind
kind_at None sender frame = packet_of_ipv6 sender frame (sort_of_ipv6 frame)
kind_at (Some at) sender frame = kind_of_message (octet_at frame at) at sender frame

abbrev pub kind_of_ipv6 : List ℕ → Kind
kind_of_ipv6 frame = kind_at (message_of frame) (Ipv6 (address_at frame 22)) frame

-- a frame of fewer than 42 octets has none of these
abbrev pub kind_of : List ℕ → Kind
kind_of frame =
    if nat_lt (length frame) 42 then Other
    else if u16_at frame 12 == 0x0806 then Arp (ipv4_at frame 28)
    else if u16_at frame 12 == 0x0800 then Packet (ipv4_at frame 26) (sort_of_ipv4 frame)
    else if u16_at frame 12 == 0x86dd then kind_of_ipv6 frame
    else Other

-- an echo request is of type 8 (RFC 792); a fragment of ICMP may belong to one
abbrev pub is_echo_ipv4 : List ℕ → Bool
is_echo_ipv4 frame =
    (octet_at frame 23 == 1) && (not (u16_at frame 20 % 0x4000 == 0) || (octet_at frame (14 + octet_at frame 14 % 16 * 4) == 8))

-- of type 128 (RFC 4443 4.1)
abbrev pub is_echo_at : Option ℕ → List ℕ → Bool
is_echo_at None frame = false
is_echo_at (Some at) frame = octet_at frame at == 128

-- what is behind the header of a fragment is told by its first octet (RFC 8200 4.5)
abbrev pub is_echo_ipv6 : List ℕ → Bool
is_echo_ipv6 frame = if octet_at frame 20 == 44 then octet_at frame 54 == 58 else is_echo_at (message_of frame) frame

-- a frame has an echo request, or a fragment of ICMP
abbrev pub is_echo : List ℕ → Bool
is_echo frame =
    if nat_lt (length frame) 42 then false
    else if u16_at frame 12 == 0x0800 then is_echo_ipv4 frame
    else if u16_at frame 12 == 0x86dd then is_echo_ipv6 frame
    else false

-- for whom a neighbour solicitation asks (RFC 4861 4.3)
abbrev pub solicited_at : Option ℕ → List ℕ → Option IpAddress
solicited_at None frame = None
solicited_at (Some at) frame = if octet_at frame at == 135 then target_at frame (at + 8) else None

-- for whom an ARP request (RFC 826) or a solicitation asks
abbrev pub asked_in : List ℕ → Option IpAddress
asked_in frame =
    if nat_lt (length frame) 42 then None
    else if u16_at frame 12 == 0x0806 then (if octet_at frame 21 == 1 then Some (ipv4_at frame 38) else None)
    else if u16_at frame 12 == 0x86dd then solicited_at (message_of frame) frame
    else None
