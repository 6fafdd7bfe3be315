use Rattle.std.proofs.Common.{[], ◌∷◌, refl, Some, Ok, lit≤, arith}
use Rattle.ip_wire.specs.Checksum.{word_sum}
use Rattle.ip_wire.specs.Ipv4Packet.{header_with, front, back}
use Rattle.ip_wire.specs.Pseudo.{pseudo}
use Rattle.ip_address.specs.declared.protocol.IpProtocol.TheVariants as protocol
use Rattle.control_wire.specs.Icmpv4.{head_with}
use Rattle.control_wire.specs.declared.icmpv4.Icmpv4Repr.TheVariants.{DstUnreachable}
use Rattle.control_wire.specs.declared.icmpv4.Icmpv4DstUnreachable.TheVariants.{PortUnreachable}
use Rattle.host_machine.specs.Sockets.Udp as udp
use Rattle.host_machine.specs.Examples.Sockets.{datagram, port_unreachable}
use Rattle.host_machine.proofs.Examples.Listeners.{nobody}
use Rattle.net_base.specs.Device.{Frame}
use Rattle.host_machine.specs.Receive.Reply.{Ip}
use Rattle.host_machine.specs.Packet.Packet.{Ipv4}
use Rattle.host_machine.specs.Packet.Packet as packet
use Rattle.host_machine.specs.Receive.Ipv4 as ipv4
use Rattle.host_machine.specs.Receive.Ethernet as ethernet
use Rattle.host_machine.specs.Send.Dispatch.{ToSpecified, ByHop, Known, Whole}
use Rattle.host_machine.specs.Send.Hops.{OnLink}
use Rattle.host_machine.specs.Examples.ArpAndEcho as example
use Rattle.host_machine.proofs.Examples.Exchange.{is_known, no_slots}
use Rattle.std.specs.Prelude.{pos}
use Rattle.host_machine.proofs.worked_examples.datagram_is_refused.Goals as goal

pub returns : goal.returns
unfolding word_sum header_with front back pseudo head_with
returns c = record {
  reception = Frame datagram;
  frames = port_unreachable ∷ [];
  response = record {
    reply = Some (Ip (Ipv4 (record {
      src_addr = record { bits = 0xc0a84501 };
      dst_addr = record { bits = 0xc0a84564 };
      hop_limit = 64;
      payload = packet.Icmpv4 (DstUnreachable PortUnreachable (record {
        src_addr = record { bits = 0xc0a84564 };
        dst_addr = record { bits = 0xc0a84501 };
        next_header = protocol.Udp;
        payload_len = 10;
        hop_limit = 64;
      })) (0x13 ∷ 0x88 ∷ 0x1b ∷ 0x39 ∷ 0 ∷ 0x0a ∷ 0x5c ∷ 0xf9 ∷ 0x68 ∷ 0x69 ∷ []);
    })));
    taken = example.host 0x1405 example.neighbors_after_renewal;
    notes_taking = [];
    notes_responding = example.identify ∷ [];
    takes = rw (no_slots (pos 0)) (ethernet.Accepted (lit≤ tt) refl (ipv4.Read
        (record { whole = lit≤ tt; version = refl; header = lit≤ tt; header_fits = lit≤ tt; total_fits = lit≤ tt; sum = λ on. refl })
        (ipv4.Whole refl refl (ipv4.Accepted refl (udp.NotAccepted
        (record { whole = lit≤ tt; header_fits = lit≤ tt; fits = lit≤ tt; port = λ e. absurd (omega (arith, e)); sum = λ on summed. refl })
        (nobody _) refl refl refl)))));
    responds = (
      Ok tt,
      ToSpecified [] refl (ByHop example.sender refl (OnLink refl refl)
          (Known example.sender_hardware is_known (Whole (lit≤ tt) (record {
            source = lit≤ tt;
            destination = lit≤ tt;
            len = lit≤ tt;
            ports = tt;
          }) refl refl refl refl))) refl,
    );
    all_notes = refl;
  };
  events = refl;
  answers = refl;
}
