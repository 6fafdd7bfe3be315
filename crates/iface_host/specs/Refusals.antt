-- Why calls are refused: the first of the reasons that holds, in their order.
use Rattle.std.specs.Prelude.{ℕ, ℤ, pos, ◌+◌, ◌==◌, ◌&&◌, ◌||◌, not, nat_le, nat_lt, max, Bool}
use Rattle.std.specs.Prelude.{is_some, List, length, Option, Some, None, if◌then◌else◌}
use Rattle.std.specs.Option.{option_and_then}
use Rattle.std.specs.Ordering.{int_cmp, is_le}
use Rattle.ip_address.specs.Ip.{is_unicast, is_unspecified}
use Rattle.ip_address.specs.Protocol.{version_of}
use Rattle.ip_address.specs.declared.ip.IpAddress.{IpAddress}
use Rattle.ip_address.specs.declared.protocol.IpVersion.{IpVersion}
use Rattle.ip_address.specs.declared.protocol.IpVersion.TheVariants.{Ipv4, Ipv6}
use Rattle.sockets.specs.Icmp.{IcmpSocket}
use Rattle.sockets.specs.Raw.{RawSocket}
use Rattle.sockets.specs.declared.endpoint.IpEndpoint.{IpEndpoint}
use Rattle.sockets.specs.Queue.{first_of, is_room}
use Rattle.sockets.specs.Kinds.{down_icmp, down_raw, down_udp}
use Rattle.socket_set.specs.SocketSet.{socket_at}
use Rattle.sockets.specs.Udp.{UdpSocket}
use Rattle.iface_host.specs.Calls.{has_route}
use Rattle.iface_host.specs.Names.{handle_named}
use Rattle.iface_host.specs.Sockets.{Socket}
use Rattle.iface_host.specs.declared.host.IfaceHost.{IfaceHost}
use Rattle.iface_host.specs.declared.refusal.Refusal.{Refusal}
use Rattle.iface_host.specs.declared.refusal.Refusal.TheVariants.{BadAddress, BadMoment, BadPort, Empty}
use Rattle.iface_host.specs.declared.refusal.Refusal.TheVariants.{NoRoom, NoRoute, NoSocket, QueueFull, TooLong}

-- the socket of a kind that a number names, if it names one
abbrev pub kind_at : {S : Type 0} → (Socket → Option S) → IfaceHost → ℕ → Option S
kind_at down host n = option_and_then down (option_and_then (socket_at host.sockets) (handle_named host.names n))

-- without a socket the number is refused
abbrev pub of_socket : {S : Type 0} → (S → Option Refusal) → Option S → Option Refusal
of_socket why None = Some NoSocket
of_socket why (Some s) = why s

-- no packet came, or the room is too short for the first one
abbrev pub of_packet : {M : Type 0} → ℕ → Option (M × List ℕ) → Option Refusal
of_packet room None = Some Empty
of_packet room (Some p) = if nat_lt room (length p.1) then Some NoRoom else None

abbrev pub udp_unreceived : IfaceHost → ℕ → ℕ → Option Refusal
udp_unreceived host n room =
    of_socket (λ (s : UdpSocket). of_packet room (first_of s.rx.packets)) (kind_at down_udp host n)

abbrev pub icmp_unreceived : IfaceHost → ℕ → ℕ → Option Refusal
icmp_unreceived host n room =
    of_socket (λ (s : IcmpSocket). of_packet room (first_of s.rx.packets)) (kind_at down_icmp host n)

abbrev pub raw_unreceived : IfaceHost → ℕ → ℕ → Option Refusal
raw_unreceived host n room =
    of_socket (λ (s : RawSocket). of_packet room (first_of s.rx.packets)) (kind_at down_raw host n)

-- a payload of so many octets behind a header of so many isn't too long to be sent in a packet of a version: over
-- IPv4 it may go in pieces
abbrev pub may_send : ℕ → IpVersion → ℕ → ℕ → Bool
may_send mtu Ipv4 header len = nat_le len 65495 && nat_le (len + header + 20) (max mtu 4096)
may_send mtu Ipv6 header len = nat_le len 65495 && nat_le (len + header + 40) mtu

-- a network of the host has the destination, or a route does, though its end may have passed; groups and everybody need none (RFC 1112
-- 6.2, RFC 1122 3.3.1)
abbrev pub is_reached : IfaceHost → IpAddress → Bool
is_reached host a = not (is_unicast a) || has_route (pos 0) host a

abbrev pub if_full : Bool → Option Refusal
if_full is_room = if is_room then None else Some QueueFull

abbrev pub raw_unsent : IfaceHost → ℕ → ℕ → Option Refusal
raw_unsent host n len = of_socket (λ (s : RawSocket). if_full (is_room s.tx len)) (kind_at down_raw host n)

abbrev pub icmp_unsent : IfaceHost → ℕ → IpAddress → ℕ → Option Refusal
icmp_unsent host n remote len =
    if is_unspecified remote then Some BadAddress
    else (if may_send host.ip_mtu (version_of remote) 0 len
    then (if is_reached host remote
    then of_socket (λ (s : IcmpSocket). if_full (is_room s.tx len)) (kind_at down_icmp host n) else Some NoRoute)
    else Some TooLong)

abbrev pub udp_unsent : IfaceHost → ℕ → IpEndpoint → ℕ → Option Refusal
udp_unsent host n remote len =
    if remote.port == 0 then Some BadPort
    else (if is_unspecified remote.addr then Some BadAddress
    else (if may_send host.ip_mtu (version_of remote.addr) 8 len
    then (if is_reached host remote.addr
    then of_socket (λ (s : UdpSocket). if s.endpoint.port == 0 then Some BadPort else if_full (is_room s.tx len))
    (kind_at down_udp host n) else Some NoRoute)
    else Some TooLong))

-- no socket, of whatever kind, is named
abbrev pub close_refusal : IfaceHost → ℕ → Option Refusal
close_refusal host n =
    if is_some (option_and_then (socket_at host.sockets) (handle_named host.names n)) then None else Some NoSocket

-- a moment that a caller may give: from 0 to 2 ^ 62 microseconds
abbrev pub is_moment : ℤ → Bool
is_moment t = is_le (int_cmp (pos 0) t) && is_le (int_cmp t (pos 4611686018427387904))

abbrev pub moment_refusal : ℤ → Option Refusal
moment_refusal t = if is_moment t then None else Some BadMoment

-- besides, a frame of the greatest length has to fit the room
abbrev pub frame_refusal : ℤ → ℕ → Option Refusal
frame_refusal t room = if is_moment t then (if nat_lt room 1514 then Some NoRoom else None) else Some BadMoment
