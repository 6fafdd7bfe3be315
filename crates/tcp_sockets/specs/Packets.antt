-- Segments as packets (RFC 9293 3.1).
use Rattle.std.specs.Prelude.{ℕ, ◌+◌, Bool, true, false, List, [], ◌∷◌, ◌++◌, map, length, Option, Some, None, if◌then◌else◌, ◌==◌}
use Rattle.std.specs.Option.{option_map}
use Rattle.ip_address.specs.declared.ip.IpAddress.{IpAddress}
use Rattle.ip_address.specs.declared.ip.IpAddress.TheVariants.{Ipv4, Ipv6}
use Rattle.ip_address.specs.declared.ipv4.Ipv4Address.{Ipv4Address}
use Rattle.ip_address.specs.declared.ipv6.Ipv6Address.{Ipv6Address}
use Rattle.ip_address.specs.declared.protocol.IpProtocol.TheVariants as protocol
use Rattle.ip_wire.specs.declared.ipv6_packet.Ipv6Repr.{Ipv6Repr}
use Rattle.ip_wire.specs.Ipv6Packet as ipv6
use Rattle.ip_wire.specs.declared.ipv4_packet.Ipv4Repr.{Ipv4Repr}
use Rattle.ip_wire.specs.Ipv4Packet as ipv4
use Rattle.ip_wire.specs.declared.tcp.TcpControl.{TcpControl}
use Rattle.ip_wire.specs.declared.tcp.TcpControl.TheVariants as control
use Rattle.tcp_wire.specs.declared.tcp.TcpRepr.{TcpRepr}
use Rattle.tcp_wire.specs.Options.{no_options}
use Rattle.tcp_wire.specs.declared.options.SackRange.{SackRange}
use Rattle.tcp_machine.specs.declared.sack.SackBlock.{SackBlock}
use Rattle.tcp_wire.specs.Tcp as tcp
use Rattle.tcp_connection.specs.declared.outgoing.Header.{Header}
use Rattle.tcp_host.specs.declared.iss.Endpoints.{Endpoints}
use Rattle.tcp_host.specs.declared.resets.Reply.{Reply}
use Rattle.tcp_host.specs.declared.resets.Reply.TheVariants as reply
use Rattle.tcp_host.specs.declared.resets.Reset.{Reset}
use Rattle.tcp_host.specs.declared.resets.SynAck.{SynAck}
use Rattle.tcp_host.specs.declared.turns.Outgoing.{Outgoing}

-- a segment that is sent
pub record Segment : Type 0 where
  pub endpoints : Endpoints
  pub header : Header
  pub mss : Option ℕ
  pub scale : Option ℕ
  pub blocks : List (Option SackBlock)
  -- how many routers its packet may pass
  pub hop_limit : ℕ
  pub octets : List ℕ

-- the same apart from where its octets are in memory
abbrev pub value_of : Outgoing → Segment
value_of o = record {
  endpoints = o.endpoints;
  header = o.header;
  mss = o.mss;
  scale = o.scale;
  blocks = o.blocks;
  hop_limit = o.hop_limit;
  octets = o.octets.now;
}

-- a reset: <SEQ=number><ACK=ack><CTL=RST>, with an acknowledgement or without one (RFC 9293 3.10.7.1)
abbrev pub reset_between : Endpoints → Reset → Segment
reset_between e r = record {
  endpoints = e;
  header = record { number = r.number; ack = r.ack; window = 0; syn = false; fin = false; rst = true };
  mss = None;
  scale = None;
  blocks = None ∷ None ∷ None ∷ [];
  hop_limit = 64;
  octets = [];
}

-- the SYN-ACK of a connection of which nothing is kept: it tells the host's MSS, and offers no scale (RFC 4987 3.6)
abbrev pub syn_ack_between : Endpoints → SynAck → Segment
syn_ack_between e a = record {
  endpoints = e;
  header = a.header;
  mss = Some a.mss;
  scale = None;
  blocks = None ∷ None ∷ None ∷ [];
  hop_limit = 64;
  octets = [];
}

abbrev pub reply_between : Endpoints → Reply → Segment
reply_between e (reply.Reset r) = reset_between e r
reply_between e (reply.Cookie a) = syn_ack_between e a

-- what it means; octets are pushed (RFC 9293 3.9.1.2)
abbrev pub control_of : Header → (is_empty : Bool) → TcpControl
control_of h is_empty =
    if h.syn then control.Syn else if h.rst then control.Rst else if h.fin then control.Fin
    else if is_empty then control.None else control.Psh

-- blocks of a selective acknowledgement as an option has them (RFC 2018 3)
abbrev pub range_of : SackBlock → SackRange
range_of b = record { left = record { bits = b.left }; right = record { bits = b.right } }

abbrev pub ranges_of : List (Option SackBlock) → List (Option SackRange)
ranges_of blocks = map (option_map range_of) blocks ++ None ∷ []

-- the values of its header; a SYN permits selective acknowledgements (RFC 2018 2)
abbrev pub repr_of : Segment → TcpRepr
repr_of s = record {
  src_port = s.endpoints.local_port;
  dst_port = s.endpoints.remote_port;
  control = control_of s.header (length s.octets == 0);
  seq_number = record { bits = s.header.number };
  ack_number = option_map (λ n. record { bits = n }) s.header.ack;
  window_len = s.header.window;
  options = record no_options {
    max_seg_size = s.mss;
    window_scale = s.scale;
    sack_permitted = s.header.syn;
    sack_ranges = ranges_of s.blocks;
  };
}

-- the header of its packet (RFC 9293 3.9.2)
abbrev pub ipv4_header : (src dst : Ipv4Address) → (len hop_limit : ℕ) → Ipv4Repr
ipv4_header src dst len hop_limit = record {
  src_addr = src;
  dst_addr = dst;
  next_header = protocol.Tcp;
  payload_len = len;
  hop_limit = hop_limit;
}

abbrev pub ipv6_header : (src dst : Ipv6Address) → (len hop_limit : ℕ) → Ipv6Repr
ipv6_header src dst len hop_limit = record {
  src_addr = src;
  dst_addr = dst;
  next_header = protocol.Tcp;
  payload_len = len;
  hop_limit = hop_limit;
}

abbrev pub ip_text : IpAddress → IpAddress → (len hop_limit : ℕ) → List ℕ
ip_text (Ipv4 src) (Ipv4 dst) len hop_limit = ipv4.header_text true (ipv4_header src dst len hop_limit) ipv4.whole
ip_text (Ipv4 src) (Ipv6 dst) len hop_limit = []
ip_text (Ipv6 src) (Ipv4 dst) len hop_limit = []
ip_text (Ipv6 src) (Ipv6 dst) len hop_limit = ipv6.header_text (ipv6_header src dst len hop_limit)

-- its packet: the header of IP, and the segment with its checksum, or 0 if that is left to the device
abbrev pub packet_text : (summed : Bool) → Segment → List ℕ
packet_text summed s =
    ip_text s.endpoints.local_addr s.endpoints.remote_addr (tcp.text_len (repr_of s) + length s.octets) s.hop_limit
    ++ tcp.text summed s.endpoints.local_addr s.endpoints.remote_addr (repr_of s) s.octets

-- both ends are of one family
abbrev pub is_one_family : IpAddress → IpAddress → Bool
is_one_family (Ipv4 a) (Ipv4 b) = true
is_one_family (Ipv4 a) (Ipv6 b) = false
is_one_family (Ipv6 a) (Ipv4 b) = false
is_one_family (Ipv6 a) (Ipv6 b) = true
