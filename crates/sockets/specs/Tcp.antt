-- TCP sockets, which hand segments in and out (RFC 9293).
use Rattle.std.specs.Prelude.{ℕ, ◌+◌, ◌%◌, ◌^◌, ◌==◌, ◌&&◌, ℤ, Bool, true}
use Rattle.std.specs.Prelude.{cond, is_none, List, map, length, Option, Some, None}
use Rattle.std.specs.Option.{option_and_then, option_map}
use Rattle.std.specs.Ordering.{int_cmp, is_lt}
use Rattle.ip_address.specs.declared.ip.IpAddress.{IpAddress}
use Rattle.ip_wire.specs.declared.tcp.TcpControl.{TcpControl}
use Rattle.ip_wire.specs.declared.tcp.TcpControl.TheVariants as control
use Rattle.ip_wire.specs.declared.tcp.TcpSeqNumber.{TcpSeqNumber}
use Rattle.ip_wire.specs.declared.tcp.TcpRepr.{TcpRepr}
use Rattle.sockets.specs.Queue.{Queued, first_of, put, queue_after_pop, queue_brought_forward}
use Rattle.sockets.specs.Source.{is_same, is_same_end, source_of}
use Rattle.sockets.specs.declared.endpoint.IpEndpoint.{IpEndpoint}
use Rattle.sockets.specs.declared.endpoint.IpListenEndpoint.{IpListenEndpoint}
use Rattle.sockets.specs.declared.poll_at.PollAt.{PollAt}
use Rattle.sockets.specs.declared.poll_at.PollAt.TheVariants.{Ingress, Time}
use Rattle.sockets.specs.declared.tcp.Packet.{Packet}
use Rattle.sockets.specs.declared.tcp.Segment.{Segment}

-- its local endpoint; its remote endpoint, if that is fixed; the hop limit of packets sent; the moment before which it
-- sends nothing; whether the connection was aborted; the segments received and to send
pub record TcpSocket : Type 0 where
  pub local : IpListenEndpoint
  pub remote : Option IpEndpoint
  pub hop_limit : ℕ
  pub hold : ℤ
  pub is_aborted : Bool
  pub rx : Queued Segment
  pub tx : Queued Segment

-- a segment with its source and destination
pub record Sent : Type 0 where
  pub src_addr : IpAddress
  pub dst_addr : IpAddress
  pub hop_limit : ℕ
  pub repr : TcpRepr
  pub payload : List ℕ

-- a packet, apart from where its payload is in memory
abbrev pub value_of : Packet → Sent
value_of p = record {
  src_addr = p.src_addr;
  dst_addr = p.dst_addr;
  hop_limit = p.hop_limit;
  repr = p.repr;
  payload = p.payload.now;
}

-- whether an address matches, if one is given
abbrev pub is_addr_if_given : Option IpAddress → IpAddress → Bool
is_addr_if_given None a = true
is_addr_if_given (Some given) a = is_same given a

-- whether an endpoint matches, if one is given
abbrev pub is_end_if_given : Option IpEndpoint → IpEndpoint → Bool
is_end_if_given None e = true
is_end_if_given (Some given) e = is_same_end given e

-- whether the socket accepts a segment from one endpoint to another
abbrev pub accepts : TcpSocket → IpEndpoint → IpEndpoint → Bool
accepts s src dst = (s.local.port == dst.port) && is_addr_if_given s.local.addr dst.addr && is_end_if_given s.remote src

-- what a socket keeps of a segment received from an address
abbrev pub segment_of : IpAddress → TcpRepr → Segment
segment_of src r = record {
  remote = record { addr = src; port = r.src_port };
  control = r.control;
  seq = r.seq_number;
  ack = r.ack_number;
  window = r.window_len;
}

-- the acknowledgement number, or 0
abbrev pub ack_or_zero : Option TcpSeqNumber → TcpSeqNumber
ack_or_zero None = record { bits = 0 }
ack_or_zero (Some n) = n

-- what a reset acknowledges: a SYN without acknowledgement number, and its payload
abbrev pub reset_ack : TcpControl → Option TcpSeqNumber → TcpSeqNumber → ℕ → Option TcpSeqNumber
reset_ack control.Syn ack seq len = cond (is_none ack) (Some (record { bits = (seq.bits + (1 + len)) % 2 ^ 32 })) None
reset_ack control.None ack seq len = None
reset_ack control.Psh ack seq len = None
reset_ack control.Fin ack seq len = None
reset_ack control.Rst ack seq len = None

-- the reset that answers a segment with this many octets of payload (RFC 9293 3.5.2)
abbrev pub reset_of : TcpRepr → ℕ → TcpRepr
reset_of r len = record {
  src_port = r.dst_port;
  dst_port = r.src_port;
  control = control.Rst;
  seq_number = ack_or_zero r.ack_number;
  ack_number = reset_ack r.control r.ack_number r.seq_number len;
  window_len = 0;
}

-- every segment but a reset is answered
abbrev pub answer_of : TcpControl → TcpRepr → ℕ → Option TcpRepr
answer_of control.Rst r len = None
answer_of control.None r len = Some (reset_of r len)
answer_of control.Psh r len = Some (reset_of r len)
answer_of control.Syn r len = Some (reset_of r len)
answer_of control.Fin r len = Some (reset_of r len)

-- a segment is received; an aborted connection doesn't get it
abbrev pub socket_after_delivery : IpAddress → TcpRepr → List ℕ → TcpSocket → TcpSocket
socket_after_delivery src r payload s = cond s.is_aborted s (record s { rx = put s.rx (segment_of src r) payload })

-- but an aborted connection answers it
abbrev pub reply : TcpRepr → List ℕ → TcpSocket → Option TcpRepr
reply r payload s = cond s.is_aborted (answer_of r.control r (length payload)) None

-- the first segment received is read
abbrev pub socket_after_done : TcpSocket → TcpSocket
socket_after_done s = record s { rx = queue_after_pop s.rx }

-- a segment is queued for sending
abbrev pub socket_after_send : Segment → List ℕ → TcpSocket → TcpSocket
socket_after_send segment payload s = record s { tx = put s.tx segment payload }

-- the first segment to send is removed
abbrev pub without_first_to_send : TcpSocket → TcpSocket
without_first_to_send s = record s { tx = queue_after_pop s.tx }

-- at the moment before which it sends nothing, if there is something to send
abbrev pub poll_at : TcpSocket → PollAt
poll_at s = cond (is_none (first_of s.tx.packets)) Ingress (Time s.hold)

-- the moment until which it holds back has not come
abbrev pub is_held : ℤ → TcpSocket → Bool
is_held moment s = is_lt (int_cmp moment s.hold)

-- the header of a segment to send
abbrev pub repr_of : ℕ → Segment → TcpRepr
repr_of port segment = record {
  src_port = port;
  dst_port = segment.remote.port;
  control = segment.control;
  seq_number = segment.seq;
  ack_number = segment.ack;
  window_len = segment.window;
}

-- a segment to send, with this source address
abbrev pub packet_to_send : TcpSocket → Segment × List ℕ → IpAddress → Sent
packet_to_send s p src = record {
  src_addr = src;
  dst_addr = p.0.remote.addr;
  hop_limit = s.hop_limit;
  repr = repr_of s.local.port p.0;
  payload = p.1;
}

-- the source address of the first segment to send, if any
abbrev pub first_source : (IpAddress → Option IpAddress) → TcpSocket → Option IpAddress
first_source source s = option_and_then (λ p. source_of source s.local.addr p.0.remote.addr) (first_of s.tx.packets)

-- the first segment to send, if it has a source address
abbrev pub first : (IpAddress → Option IpAddress) → TcpSocket → Option Sent
first source s = option_and_then (λ p. option_map (packet_to_send s p) (source_of source s.local.addr p.0.remote.addr))
    (first_of s.tx.packets)

-- the first segment to send, if the socket no longer holds back and it has a source address
abbrev pub offered_packet : ℤ → (IpAddress → Option IpAddress) → TcpSocket → Option Sent
offered_packet moment source s = cond (is_held moment s) None (first source s)

-- the socket after it was asked: the first segment is removed if the socket no longer holds back and it
-- has no source address
abbrev pub socket_after_offer : ℤ → (IpAddress → Option IpAddress) → TcpSocket → TcpSocket
socket_after_offer moment source s =
    cond (is_held moment s) s (cond (is_none (first source s)) (without_first_to_send s) s)

-- the socket after the acknowledgement
abbrev pub socket_after_told : Bool → TcpSocket → TcpSocket
socket_after_told is_done s = cond is_done (without_first_to_send s) s

-- for which addresses the segments to send are, in order
abbrev pub destinations : TcpSocket → List (Option IpAddress)
destinations s = map (λ p. Some p.0.remote.addr) s.tx.packets

-- the socket with the one at an index as the first to send
abbrev pub socket_brought_forward : ℕ → TcpSocket → TcpSocket
socket_brought_forward index s = record s { tx = queue_brought_forward index s.tx }
