-- Segments in packets: which ones a host of connections takes (RFC 9293 3.9.2.3, RFC 1122 4.2.3.10).
use Rattle.std.specs.Prelude.{◌≡◌, ℕ, ◌/◌, ◌<◌, ◌^◌, ◌==◌, ◌&&◌, not, Bool, true, false, List, map, length, Option, Some, None, if◌then◌else◌}
use Rattle.std.specs.List.{list_any}
use Rattle.std.specs.Option.{SomeIff, option_map}
use Rattle.ip_address.specs.Cidr.{address_of, broadcast_of}
use Rattle.ip_address.specs.Ip.{is_unicast}
use Rattle.ip_address.specs.Ipv6 as ipv6
use Rattle.ip_address.specs.Protocol.{number_of}
use Rattle.ip_address.specs.declared.ip.IpAddress.{IpAddress}
use Rattle.ip_address.specs.declared.ip.IpAddress.TheVariants as address
use Rattle.ip_address.specs.declared.ipv4.Ipv4Address.{Ipv4Address}
use Rattle.ip_address.specs.declared.cidr.IpCidr.{IpCidr}
use Rattle.ip_address.specs.declared.cidr.IpCidr.TheVariants as cidr
use Rattle.ip_wire.specs.IpPacket.{src_addr, dst_addr, next_header}
use Rattle.ip_wire.specs.Tcp.{IsTcp}
use Rattle.ip_wire.specs.declared.tcp.TcpControl.{TcpControl}
use Rattle.ip_wire.specs.declared.tcp.TcpControl.TheVariants.{Syn, Fin, Rst}
use Rattle.ip_wire.specs.declared.tcp.TcpSeqNumber.{TcpSeqNumber}
use Rattle.sockets.specs.Source.{is_same}
use Rattle.sockets.specs.Raw.{Sent}
use Rattle.tcp_machine.specs.declared.sack.SackBlock.{SackBlock}
use Rattle.tcp_wire.specs.declared.options.SackRange.{SackRange}
use Rattle.tcp_wire.specs.declared.tcp.TcpRepr.{TcpRepr}
use Rattle.tcp_wire.specs.Tcp.{tcp_in}
use Rattle.tcp_connection.specs.declared.segment.Segment.{Segment}
use Rattle.tcp_host.specs.declared.iss.Endpoints.{Endpoints}
use Rattle.tcp_sockets.specs.declared.arrivals.Arrival.{Arrival}

-- a segment that arrived, with the ends of its connection
pub record Arrived : Type 0 where
  pub endpoints : Endpoints
  pub segment : Segment
  pub octets : List ℕ

-- the same apart from where its octets are in memory
abbrev pub value_of : Arrival → Arrived
value_of a = record { endpoints = a.endpoints; segment = a.segment; octets = a.octets.now }

-- an address is one of a host's
abbrev pub is_own : List IpCidr → IpAddress → Bool
is_own own a = list_any (λ c. is_same (address_of c) a) own

-- an address is the broadcast address of a network of a host (RFC 919 7)
abbrev pub is_at : Option Ipv4Address → Ipv4Address → Bool
is_at None a = false
is_at (Some b) a = b.bits == a.bits

abbrev pub is_broadcast_of : IpAddress → IpCidr → Bool
is_broadcast_of (address.Ipv4 a) (cidr.Ipv4 c) = is_at (broadcast_of c) a
is_broadcast_of (address.Ipv4 a) (cidr.Ipv6 c) = false
is_broadcast_of (address.Ipv6 a) (cidr.Ipv4 c) = false
is_broadcast_of (address.Ipv6 a) (cidr.Ipv6 c) = false

abbrev pub is_broadcast : List IpCidr → IpAddress → Bool
is_broadcast own a = list_any (λ c. is_broadcast_of a c) own

-- A loopback address, of 127/8 or ::1, stands in no packet that came by a link (RFC 1122 3.2.1.3, RFC 4291 2.5.3): a host has packets
-- from one only from itself, and to another one
abbrev pub is_loopback : IpAddress → Bool
is_loopback (address.Ipv4 a) = a.bits / 16777216 == 127
is_loopback (address.Ipv6 a) = ipv6.is_loopback a

abbrev pub may_come : (src dst : IpAddress) → Bool
may_come src dst = if is_loopback src then is_loopback dst else not (is_loopback dst)

-- a packet between two addresses goes from one host to this one
abbrev pub is_for_host : List IpCidr → (src dst : IpAddress) → Bool
is_for_host own src dst = is_own own dst && is_unicast dst && is_unicast src && not (is_broadcast own src) && may_come src dst

-- a packet with a segment for this host; its checksum is right, if it is verified
pub record HasSegment (checked : Bool) (own : List IpCidr) (p : Sent) : Type 0 where
  pub of_tcp : number_of (next_header p.header) ≡ 6
  pub for_host : is_for_host own (src_addr p.header) (dst_addr p.header) ≡ true
  pub most : length p.payload < 2 ^ 16
  pub segment : IsTcp checked (src_addr p.header) (dst_addr p.header) p.payload

-- a segment's values, as a connection takes them
abbrev pub is_syn : TcpControl → Bool
is_syn Syn = true
is_syn c = false

abbrev pub is_fin : TcpControl → Bool
is_fin Fin = true
is_fin c = false

abbrev pub is_rst : TcpControl → Bool
is_rst Rst = true
is_rst c = false

-- the blocks of a selective acknowledgement (RFC 2018 3)
abbrev pub block_of : SackRange → SackBlock
block_of r = record { left = r.left.bits; right = r.right.bits }

abbrev pub blocks_of : List (Option SackRange) → List (Option SackBlock)
blocks_of ranges = map (option_map block_of) ranges

abbrev pub segment_of : TcpRepr → Segment
segment_of r = record {
  number = r.seq_number.bits;
  ack = option_map (λ (n : TcpSeqNumber). n.bits) r.ack_number;
  window = r.window_len;
  syn = is_syn r.control;
  fin = is_fin r.control;
  rst = is_rst r.control;
  mss = r.options.max_seg_size;
  scale = r.options.window_scale;
  sack_permitted = r.options.sack_permitted;
  blocks = blocks_of r.options.sack_ranges;
}

-- the ends of its connection: the remote one is where it came from
abbrev pub endpoints_of : Sent → TcpRepr → Endpoints
endpoints_of p r = record {
  local_addr = dst_addr p.header;
  local_port = r.dst_port;
  remote_addr = src_addr p.header;
  remote_port = r.src_port;
}

-- what arrives in a packet
abbrev pub arrived_in : Sent → Arrived
arrived_in p = record {
  endpoints = endpoints_of p (tcp_in p.payload).0;
  segment = segment_of (tcp_in p.payload).0;
  octets = (tcp_in p.payload).1;
}

-- what arrives in octets that may be a packet
abbrev pub Arrives : Bool → List IpCidr → Option Sent → Option Arrived → Type 0
Arrives checked own None a = a ≡ None
Arrives checked own (Some p) a = SomeIff a (HasSegment checked own p) (arrived_in p)
