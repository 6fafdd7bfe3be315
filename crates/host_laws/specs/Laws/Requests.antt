-- Which of the frames that a run sends request hardware addresses, and when they are sent.
use Rattle.std.specs.Prelude.{◌≡◌, ℕ, ℤ, pos, ◌==◌, ◌&&◌, ◌||◌, Bool, true, false}
use Rattle.std.specs.Prelude.{List, [], ◌∷◌, slice_index, if◌then◌else◌}
use Rattle.std.specs.List.{AllByRecursion}
use Rattle.net_base.specs.declared.phy.Medium.{Medium}
use Rattle.net_base.specs.declared.phy.Medium.TheVariants as medium
use Rattle.net_base.specs.Device.{Event, Received, Asked, Sent}
use Rattle.ip_wire.specs.Octets.{u16_at}
use Rattle.ip_address.specs.Protocol.{number_of}
use Rattle.control_wire.specs.declared.icmpv6.Icmpv6Repr.{Icmpv6Repr}
use Rattle.control_wire.specs.declared.icmpv6.Icmpv6Repr.TheVariants as v6
use Rattle.control_wire.specs.declared.ndisc.NdiscRepr.{NdiscRepr}
use Rattle.control_wire.specs.declared.ndisc.NdiscRepr.TheVariants.{NeighborSolicit, NeighborAdvert}
use Rattle.sockets.specs.Kinds.{down_raw}
use Rattle.host_machine.specs.Context.Host.{Host, Storage}
use Rattle.host_machine.specs.Sockets.Delivery.{holds}
use Rattle.host_machine.specs.Packet.Packet.{IpPayload, Icmpv4, Icmpv6, Udp, Tcp, Raw, Igmp, Mld}
use Rattle.host_machine.specs.Interface.Run.{Transition, events_in}

-- an Ethernet frame that requests a hardware address: its type is ARP, and the operation a request (RFC 826)
abbrev pub is_arp_request : List ℕ → Bool
is_arp_request frame = u16_at frame 12 == 0x0806 && u16_at frame 20 == 1

-- or over IPv6: its next header is ICMPv6, and the message a neighbour solicitation (RFC 4861 4.3)
abbrev pub is_solicitation : List ℕ → Bool
is_solicitation frame = u16_at frame 12 == 0x86dd && slice_index frame 20 == 58 && slice_index frame 54 == 135

-- by the medium: on one without hardware addresses there are no requests
abbrev pub is_request : Medium → List ℕ → Bool
is_request medium.Ethernet frame = is_arp_request frame || is_solicitation frame
is_request medium.Ip frame = false

-- the frames that were sent, each with the moment at which the device was last asked, for a frame
-- or for a transmit token
abbrev pub sent_at : ℤ → List Event → List (ℤ × List ℕ)
sent_at t [] = []
sent_at t (Received now reception ∷ es) = sent_at now es
sent_at t (Asked now given ∷ es) = sent_at now es
sent_at t (Sent id frame ∷ es) = (t, frame) ∷ sent_at t es

-- the moments of those that are requests, in order
abbrev pub requests_at : Medium → List (ℤ × List ℕ) → List ℤ
requests_at m [] = []
requests_at m (f ∷ fs) = if is_request m f.1 then f.0 ∷ requests_at m fs else requests_at m fs

-- the moments of the requests of a whole run
abbrev pub requests_in : Medium → List Transition → List ℤ
requests_in m transitions = requests_at m (sent_at (pos 0) (events_in transitions))

-- a payload that may be a solicitation: one by its values, and what a raw socket for ICMPv6 sends
abbrev pub may_ask_neighbor : NdiscRepr → Bool
may_ask_neighbor (NeighborSolicit target lladdr) = true
may_ask_neighbor (NeighborAdvert flags target lladdr) = false

abbrev pub may_ask_v6 : Icmpv6Repr → Bool
may_ask_v6 (v6.Ndisc message) = may_ask_neighbor message
may_ask_v6 (v6.Router message) = false
may_ask_v6 (v6.Mld message) = false
may_ask_v6 (v6.EchoRequest ident seq_no) = false
may_ask_v6 (v6.EchoReply ident seq_no) = false
may_ask_v6 (v6.DstUnreachable reason header) = false
may_ask_v6 (v6.PktTooBig mtu header) = false
may_ask_v6 (v6.TimeExceeded code header) = false
may_ask_v6 (v6.ParamProblem reason pointer header) = false

abbrev pub may_ask : IpPayload → Bool
may_ask (Icmpv4 message octets) = false
may_ask (Icmpv6 message octets) = may_ask_v6 message
may_ask (Udp header octets) = false
may_ask (Tcp header octets) = false
may_ask (Raw protocol octets) = number_of protocol == 58
may_ask (Igmp message) = false
may_ask (Mld count records) = false

-- a raw socket for ICMPv6, whose owner may send solicitations
abbrev pub speaks_icmpv6 : Storage → Bool
speaks_icmpv6 place = holds down_raw (λ s. number_of s.protocol == 58) place

-- a host has no such socket
abbrev pub NoSocketSpeaks : Host → Type 0
NoSocketSpeaks H = AllByRecursion (λ place. speaks_icmpv6 place ≡ false) H.sockets.places
