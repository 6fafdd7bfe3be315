-- Segments of TCP as C writes and reads them.
use Rattle.std.specs.Prelude.{ℕ, ◌≡◌, ◌==◌, List, Option, Some, None, if◌then◌else◌}
use Rattle.std.specs.Option.{option_and_then, option_map}
use Rattle.ip_wire.specs.declared.tcp.TcpControl.{TcpControl}
use Rattle.ip_wire.specs.declared.tcp.TcpControl.TheVariants as control
use Rattle.ip_wire.specs.declared.tcp.TcpSeqNumber.{TcpSeqNumber}
use Rattle.sockets.specs.declared.endpoint.IpEndpoint.{IpEndpoint}
use Rattle.sockets.specs.declared.endpoint.IpListenEndpoint.{IpListenEndpoint}
use Rattle.sockets.specs.declared.tcp.Segment.{Segment}
use Rattle.iface_host.specs.Segments as segments
use Rattle.iface_host.specs.declared.host.IfaceHost.{IfaceHost}
use Rattle.iface_c.specs.Addresses.{end_in, listen_end_in, written_end}
use Rattle.iface_c.specs.declared.addresses.IfaceEndpoint.{IfaceEndpoint}
use Rattle.iface_c.specs.declared.segments.IfaceSegment.{IfaceSegment}

-- the remote end of a socket: none is given, if the version is 0
abbrev pub remote_in : IfaceEndpoint → Option (Option IpEndpoint)
remote_in e = if e.address.version == 0 then Some None else option_map (λ (end : IpEndpoint). Some end) (end_in e)

-- its own end with the remote one
abbrev pub ends_in : IfaceEndpoint → IfaceEndpoint → Option (IpListenEndpoint × Option IpEndpoint)
ends_in local remote = option_and_then (λ (own : IpListenEndpoint).
    option_map (λ (other : Option IpEndpoint). (own, other)) (remote_in remote)) (listen_end_in local)

-- what a segment does to its connection
abbrev pub control_in : ℕ → Option TcpControl
control_in n =
    if n == 0 then Some control.None
    else (if n == 1 then Some control.Psh
    else (if n == 2 then Some control.Syn
    else (if n == 3 then Some control.Fin
    else (if n == 4 then Some control.Rst else None))))

abbrev pub control_for_c : TcpControl → ℕ
control_for_c control.None = 0
control_for_c control.Psh = 1
control_for_c control.Syn = 2
control_for_c control.Fin = 3
control_for_c control.Rst = 4

-- its acknowledgement number, if it has one
abbrev pub ack_in : IfaceSegment → Option TcpSeqNumber
ack_in s = if s.has_ack == 0 then None else Some (record { bits = s.ack })

-- a segment, if its end and what it does have a meaning
abbrev pub segment_in : IfaceSegment → Option Segment
segment_in s = option_and_then (λ (remote : IpEndpoint). option_map (λ (does : TcpControl).
    record { remote = remote; control = does; seq = record { bits = s.seq }; ack = ack_in s; window = s.window })
    (control_in s.control)) (end_in s.remote)

-- the acknowledgement number, and whether there is one, as C reads it
abbrev pub ack_for_c : Option TcpSeqNumber → ℕ × ℕ
ack_for_c None = (0, 0)
ack_for_c (Some number) = (number.bits, 1)

-- a segment as C reads it
abbrev pub segment_for_c : Segment → IfaceSegment
segment_for_c s = record {
  remote = written_end s.remote;
  seq = s.seq.bits;
  ack = (ack_for_c s.ack).0;
  window = s.window;
  control = control_for_c s.control;
  has_ack = (ack_for_c s.ack).1;
}

-- a segment was read, and its values are written
pub record ReceivesTcp (n : ℕ) (shown : IfaceSegment) (len : ℕ) (out : List ℕ) (old new : IfaceHost) : Type 0 where
  pub segment : Segment
  pub received : segments.ReceivesTcp n segment len out old new
  pub is_written : shown ≡ segment_for_c segment

-- the first one that came was written so, and nothing changed
pub record PeeksTcp (n : ℕ) (shown : IfaceSegment) (len : ℕ) (out : List ℕ) (old new : IfaceHost) : Type 0 where
  pub segment : Segment
  pub peeked : segments.PeeksTcp n segment len out old
  pub is_written : shown ≡ segment_for_c segment
  pub same : new ≡ old
