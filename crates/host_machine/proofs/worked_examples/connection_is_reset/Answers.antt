use Rattle.std.proofs.Common.{[], ◌∷◌, refl, Some, Ok, lit≤, arith}
use Rattle.ip_wire.specs.Checksum.{word_sum}
use Rattle.ip_wire.specs.Ipv4Packet.{header_with, front, back}
use Rattle.ip_wire.specs.Pseudo.{pseudo}
use Rattle.ip_wire.specs.Tcp as wire
use Rattle.ip_wire.specs.Tcp.{control_of}
use Rattle.ip_wire.specs.declared.tcp.TcpControl.TheVariants as control
use Rattle.host_machine.specs.Sockets.Tcp as tcp
use Rattle.host_machine.specs.Examples.Sockets.{opening, reset, listening_socket, with_socket}
use Rattle.host_machine.proofs.Examples.Listeners.{none_of_two}
use Rattle.net_base.specs.Device.{Frame}
use Rattle.host_machine.specs.Receive.Reply.{Ip}
use Rattle.host_machine.specs.Packet.Packet.{Ipv4}
use Rattle.host_machine.specs.Packet.Packet as packet
use Rattle.host_machine.specs.Receive.Ipv4 as ipv4
use Rattle.host_machine.specs.Receive.Ethernet as ethernet
use Rattle.host_machine.specs.Send.Dispatch.{ToSpecified, ByHop, Known, Whole}
use Rattle.host_machine.specs.Send.Hops.{OnLink}
use Rattle.host_machine.specs.Examples.ArpAndEcho as example
use Rattle.host_machine.proofs.Examples.Exchange.{is_known, no_slots}
use Rattle.std.specs.Prelude.{pos}
use Rattle.host_machine.proofs.worked_examples.connection_is_reset.Goals as goal

pub returns : goal.returns
unfolding word_sum header_with front back pseudo control_of wire.header_with
returns c = record {
  reception = Frame opening;
  frames = reset ∷ [];
  response = record {
    reply = Some (Ip (Ipv4 (record {
      src_addr = record { bits = 0xc0a84501 };
      dst_addr = record { bits = 0xc0a84564 };
      hop_limit = 64;
      payload = packet.Tcp (record {
        src_port = 80;
        dst_port = 5000;
        control = control.Rst;
        seq_number = record { bits = 0 };
        ack_number = Some (record { bits = 0x01020305 });
        window_len = 0;
      }) [];
    })));
    taken = with_socket listening_socket (example.host 0x1405 example.neighbors_after_renewal);
    notes_taking = [];
    notes_responding = example.identify ∷ [];
    takes = rw (no_slots (pos 0)) (ethernet.Accepted (lit≤ tt) refl (ipv4.Read
        (record { whole = lit≤ tt; version = refl; header = lit≤ tt; header_fits = lit≤ tt; total_fits = lit≤ tt; sum = λ on. refl })
        (ipv4.Whole refl refl (ipv4.Accepted refl (tcp.NotAccepted refl
        (record {
          whole = lit≤ tt;
          header = lit≤ tt;
          header_fits = lit≤ tt;
          source = λ e. absurd (omega (arith, e));
          destination = λ e. absurd (omega (arith, e));
          flags = lit≤ tt;
          sum = λ on. refl;
        })
        (none_of_two _ _ _ refl refl) refl refl refl)))));
    responds = (
      Ok tt,
      ToSpecified [] refl (ByHop example.sender refl (OnLink refl refl)
          (Known example.sender_hardware is_known (Whole (lit≤ tt) (record {
            source = lit≤ tt;
            destination = lit≤ tt;
            len = lit≤ tt;
            ports = tt;
          }) refl refl refl refl))) refl,
    );
    all_notes = refl;
  };
  events = refl;
  answers = refl;
}
