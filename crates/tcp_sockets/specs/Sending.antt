-- Segments that are sent by raw sockets.
use Rattle.std.specs.Prelude.{nat_le, ◌&&◌, Bool, List, length, Option, Some, None, if◌then◌else◌}
use Rattle.ip_address.specs.declared.ip.IpAddress.{IpAddress}
use Rattle.ip_address.specs.declared.ip.IpAddress.TheVariants.{Ipv4, Ipv6}
use Rattle.ip_address.specs.declared.cidr.IpCidr.{IpCidr}
use Rattle.ip_address.specs.declared.protocol.IpVersion.{IpVersion}
use Rattle.ip_address.specs.declared.protocol.IpVersion.TheVariants as version
use Rattle.sockets.specs.Queue.{is_room}
use Rattle.sockets.specs.Raw.{RawSocket, socket_after_send}
use Rattle.tcp_host.specs.declared.iss.Endpoints.{Endpoints}
use Rattle.tcp_sockets.specs.Arrivals.{is_own}
use Rattle.tcp_sockets.specs.Destinations.{last_of, takes, with}
use Rattle.tcp_sockets.specs.Packets.{Segment, packet_text, is_one_family}

-- the version of IP between two addresses, if they are of one family
abbrev pub version_of : IpAddress → IpAddress → Option IpVersion
version_of (Ipv4 a) (Ipv4 b) = Some version.Ipv4
version_of (Ipv4 a) (Ipv6 b) = None
version_of (Ipv6 a) (Ipv4 b) = None
version_of (Ipv6 a) (Ipv6 b) = Some version.Ipv6

-- a host sends between two ends only if the local one is its own
abbrev pub version_between : Endpoints → List IpCidr → Option IpVersion
version_between e own = if is_own own e.local_addr then version_of e.local_addr e.remote_addr else None

-- a packet can carry it, beside headers of 20 and of 60 octets
abbrev pub is_packet : Segment → Bool
is_packet s = nat_le (length s.octets) 65455 && is_one_family s.endpoints.local_addr s.endpoints.remote_addr

abbrev pub fits : Bool → Segment → RawSocket → Bool
fits summed s socket = is_packet s && is_room socket.tx (length (packet_text summed s))

-- it is queued, if there is room
abbrev pub socket_after : Bool → Segment → RawSocket → RawSocket
socket_after summed s socket = if is_packet s then socket_after_send (packet_text summed s) socket else socket

-- at a socket for peers that haven't answered a second packet of one destination doesn't fit
abbrev pub waiting_at : RawSocket → List IpAddress → List IpAddress
waiting_at socket waiting = last_of (length socket.tx.packets) waiting

abbrev pub takes_far : Segment → RawSocket → List IpAddress → Bool
takes_far s socket waiting = takes (waiting_at socket waiting) s.endpoints.remote_addr

abbrev pub fits_far : Bool → Segment → RawSocket → List IpAddress → Bool
fits_far summed s socket waiting = takes_far s socket waiting && fits summed s socket

abbrev pub socket_after_far : Bool → Segment → List IpAddress → RawSocket → RawSocket
socket_after_far summed s waiting socket = if takes_far s socket waiting then socket_after summed s socket else socket

abbrev pub waiting_after : Bool → Segment → RawSocket → List IpAddress → List IpAddress
waiting_after summed s socket waiting =
    if fits_far summed s socket waiting then with (waiting_at socket waiting) s.endpoints.remote_addr else waiting_at socket waiting
