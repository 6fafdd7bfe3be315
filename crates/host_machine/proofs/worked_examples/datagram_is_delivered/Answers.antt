use Rattle.std.proofs.Common.{[], ◌∷◌, refl, Some, None, lit≤, arith}
use Rattle.ip_wire.specs.Checksum.{word_sum}
use Rattle.ip_wire.specs.Pseudo.{pseudo}
use Rattle.net_base.specs.Device.{Frame}
use Rattle.sockets.specs.declared.socket.SocketOf.TheVariants as kind
use Rattle.host_machine.specs.Sockets.Udp as udp
use Rattle.host_machine.specs.Receive.Ipv4 as ipv4
use Rattle.host_machine.specs.Receive.Ethernet as ethernet
use Rattle.host_machine.specs.Examples.ArpAndEcho as example
use Rattle.host_machine.specs.Examples.Sockets.{datagram, listening_socket, socket_with_datagram, with_socket}
use Rattle.host_machine.proofs.Examples.Listeners.{first_is_free}
use Rattle.host_machine.proofs.Examples.Exchange.{no_slots}
use Rattle.std.specs.Prelude.{pos}
use Rattle.host_machine.proofs.worked_examples.datagram_is_delivered.Goals as goal

pub returns : goal.returns
unfolding word_sum pseudo
returns c = record {
  reception = Frame datagram;
  frames = [];
  response = record {
    reply = None;
    taken = with_socket socket_with_datagram (example.host 0x1405 example.neighbors_after_renewal);
    notes_taking = [];
    notes_responding = [];
    takes = rw (no_slots (pos 0)) (ethernet.Accepted (lit≤ tt) refl (ipv4.Read
        (record { whole = lit≤ tt; version = refl; header = lit≤ tt; header_fits = lit≤ tt; total_fits = lit≤ tt; sum = λ on. refl })
        (ipv4.Whole refl refl (ipv4.Accepted refl (udp.Delivered (None ∷ Some (kind.Udp socket_with_datagram) ∷ [])
        (record { whole = lit≤ tt; header_fits = lit≤ tt; fits = lit≤ tt; port = λ e. absurd (omega (arith, e)); sum = λ on summed. refl })
        (record {
          index = 1;
          place = Some (kind.Udp listening_socket);
          first = record { is_there = refl; accepts = refl; none_before = first_is_free _ (Some (kind.Udp listening_socket) ∷ []) refl };
          changed = refl;
        })
        refl refl refl)))));
    responds = (refl, refl, refl);
    all_notes = refl;
  };
  events = refl;
  answers = refl;
}
