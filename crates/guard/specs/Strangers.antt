-- How long a neighbour is known that a host doesn't know well: strangers displace strangers alone.
use Rattle.std.specs.Prelude.{ℕ, ◌*◌, ◌==◌, ◌&&◌, ◌||◌, nat_lt, ℤ, pos, ◌+ℤ◌, Bool, true, false, List, Option, Some, None, if◌then◌else◌}
use Rattle.std.specs.FinMap as map
use Rattle.ip_address.specs.declared.cidr.IpCidr.{IpCidr}
use Rattle.ip_address.specs.declared.ethernet_address.EthernetAddress.{EthernetAddress}
use Rattle.ip_address.specs.declared.hardware.HardwareAddress.{HardwareAddress}
use Rattle.ip_address.specs.declared.hardware.HardwareAddress.TheVariants.{Ethernet}
use Rattle.ip_address.specs.declared.ip.IpAddress.{IpAddress}
use Rattle.ip_address.specs.declared.ip.IpAddress.TheVariants.{Ipv4, Ipv6}
use Rattle.iface_tables.specs.Neighbor.{Neighbors, after_limit, count_after, is_before, is_same}
use Rattle.iface_tables.specs.declared.neighbor.Neighbor.{Neighbor}
use Rattle.guard.specs.Claim.{hardware_at}
use Rattle.guard.specs.Guard.{is_near, was_asked}
use Rattle.guard.specs.Kind.{ipv4_at, kind_of}
use Rattle.ip_wire.specs.Ipv6Packet.{address_at}
use Rattle.ip_wire.specs.Octets.{u16_at}
use Rattle.guard.specs.declared.guard.Guard.{Guard}
use Rattle.guard.specs.declared.kind.Kind.{Kind}
use Rattle.guard.specs.declared.kind.Kind.TheVariants.{Arp, Neighbor as Message, Packet, Other}
use Rattle.guard.specs.declared.kind.Sort.TheVariants.{Fragment, Loop, Transport, Plain}
use Rattle.guard.specs.declared.strangers.Limit.{Limit}

-- who sends a frame: the sender of an ARP packet (RFC 826), or the source of an IP packet
abbrev pub sender_of : Kind → Option IpAddress
sender_of (Arp sender) = Some sender
sender_of (Message sender target) = Some sender
sender_of (Packet sender sort) = Some sender
sender_of Other = None

-- an IP packet that is no neighbour message
abbrev pub is_packet : Kind → Bool
is_packet (Arp sender) = false
is_packet (Message sender target) = false
is_packet (Packet sender sort) = true
is_packet Other = false

-- a packet of UDP or TCP, or a fragment: nobody is learnt from it
abbrev pub teaches_nobody : Kind → Bool
teaches_nobody (Arp sender) = false
teaches_nobody (Message sender target) = false
teaches_nobody (Packet sender Fragment) = true
teaches_nobody (Packet sender Loop) = true
teaches_nobody (Packet sender Transport) = true
teaches_nobody (Packet sender Plain) = false
teaches_nobody Other = true

-- until when a neighbour is known at least that is confirmed
abbrev pub end_of_stay : ℤ → Guard → ℤ
end_of_stay now g = now +ℤ pos g.strangers_stay

-- so many of the entries are confirmed
abbrev pub confirmed : ℤ → Neighbors → Guard → ℕ
confirmed now known g = count_after (end_of_stay now g) known.known

-- fewer than half of the entries are confirmed
abbrev pub leaves_half : ℤ → Neighbors → Guard → Bool
leaves_half now known g = nat_lt (2 * confirmed now known g) known.room

-- the entry of an address expires at the end of a stay at the latest, unless it has this hardware address
abbrev pub limit_at : ℤ → IpAddress → (unless : Option HardwareAddress) → Guard → Limit
limit_at now a unless g = record { address = a; expires_at = end_of_stay now g; unless = unless }

-- a frame of somebody who isn't stored: what it tells is limited, unless the host asked for him, and half is left for others
abbrev pub limit_of_new : ℤ → Kind → IpAddress → Neighbors → Guard → Option Limit
limit_of_new now kind a known g =
    if teaches_nobody kind || (was_asked now a g.asked && leaves_half now known g) then None else Some (limit_at now a None g)

-- of somebody who is confirmed: a packet renews it, and a message limits it only if it tells another hardware address
abbrev pub limit_of_confirmed : ℤ → Kind → IpAddress → Neighbor → Guard → Option Limit
limit_of_confirmed now kind a n g = if is_packet kind then None else Some (limit_at now a (Some n.hardware_addr) g)

-- of somebody who is stored and isn't confirmed: a packet confirms it while half is left for others, and so does an answer
abbrev pub limit_of_stranger : ℤ → Kind → IpAddress → Neighbors → Guard → Option Limit
limit_of_stranger now kind a known g =
    if (is_packet kind || was_asked now a g.asked) && leaves_half now known g then None else Some (limit_at now a None g)

abbrev pub limit_of : ℤ → Kind → IpAddress → Neighbors → Option Neighbor → Guard → Option Limit
limit_of now kind a known None g = limit_of_new now kind a known g
limit_of now kind a known (Some n) g =
    if is_before (end_of_stay now g) n.expires_at then limit_of_confirmed now kind a n g else limit_of_stranger now kind a known g

-- an IPv4 address that is in no own network has no entry (RFC 826)
abbrev pub may_have_entry : List IpCidr → IpAddress → Bool
may_have_entry own (Ipv4 a) = is_near own (Ipv4 a)
may_have_entry own (Ipv6 a) = true

abbrev pub limit_from : ℤ → Kind → Option IpAddress → List IpCidr → Neighbors → Guard → Option Limit
limit_from now kind None own known g = None
limit_from now kind (Some a) own known g =
    if may_have_entry own a then limit_of now kind a known (map.get known.known a) g else None

-- the source of a packet of IPv4 (RFC 791 3.1), or of IPv6 (RFC 8200 3)
abbrev pub packet_sender : List ℕ → IpAddress
packet_sender frame = if u16_at frame 12 == 0x0800 then ipv4_at frame 26 else Ipv6 (address_at frame 22)

-- the limit of a frame, for a host with these addresses that knows these neighbours before it takes the frame
abbrev pub limit_for : ℤ → List ℕ → List IpCidr → Neighbors → Guard → Option Limit
limit_for now frame own known g =
    if g.strangers_stay == 0 then None else limit_from now (kind_of frame) (sender_of (kind_of frame)) own known g

-- a neighbour that is confirmed has this hardware address
abbrev pub is_confirmed_at : ℤ → EthernetAddress → Option Neighbor → Guard → Bool
is_confirmed_at now h None g = false
is_confirmed_at now h (Some n) g = is_before (end_of_stay now g) n.expires_at && is_same n.hardware_addr (Ethernet h)

abbrev pub is_from_known : ℤ → List ℕ → Option IpAddress → Neighbors → Guard → Bool
is_from_known now frame None known g = false
is_from_known now frame (Some a) known g = is_confirmed_at now (hardware_at frame 6) (map.get known.known a) g

-- a frame comes from a neighbour that is confirmed, and from its hardware address
abbrev pub comes_from_known : ℤ → List ℕ → Neighbors → Guard → Bool
comes_from_known now frame known g = is_from_known now frame (sender_of (kind_of frame)) known g

-- an entry has a hardware address
abbrev pub has_address : Option Neighbor → Option HardwareAddress → Bool
has_address None h = false
has_address (Some n) None = false
has_address (Some n) (Some h) = is_same n.hardware_addr h

-- the neighbours after a limit
abbrev pub after_limit_of : Limit → Neighbors → Neighbors
after_limit_of limit known =
    if has_address (map.get known.known limit.address) limit.unless then known
    else after_limit known limit.address limit.expires_at

abbrev pub limited : Option Limit → Neighbors → Neighbors
limited None known = known
limited (Some limit) known = after_limit_of limit known
