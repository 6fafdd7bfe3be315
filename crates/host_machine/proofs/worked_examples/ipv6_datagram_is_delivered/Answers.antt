use Rattle.std.proofs.Common.{[], ◌∷◌, refl, Some, None, lit≤, arith}
use Rattle.std.specs.Prelude.{pos}
use Rattle.ip_address.specs.Prefixes.{bits}
use Rattle.ip_wire.specs.Checksum.{word_sum}
use Rattle.ip_wire.specs.Pseudo.{pseudo}
use Rattle.ip_wire.specs.Ipv6Packet.{address_at}
use Rattle.net_base.specs.Device.{Frame}
use Rattle.sockets.specs.declared.socket.SocketOf.TheVariants as kind
use Rattle.host_machine.specs.Sockets.Udp as udp
use Rattle.host_machine.specs.Receive.Ipv6 as ipv6
use Rattle.host_machine.specs.Receive.Ethernet as ethernet
use Rattle.host_machine.specs.Examples.Discovery.{host}
use Rattle.host_machine.specs.Examples.Sockets.{listening_socket, with_socket}
use Rattle.host_machine.specs.Examples.Ipv6.{datagram, neighbors_after_renewal, socket_with_datagram}
use Rattle.host_machine.proofs.Examples.Listeners.{first_is_free}
use Rattle.host_machine.proofs.Examples.Exchange.{no_slots}
use Rattle.host_machine.proofs.worked_examples.ipv6_datagram_is_delivered.Goals as goal

pub returns : goal.returns
unfolding word_sum pseudo bits address_at
returns c = record {
  reception = Frame datagram;
  frames = [];
  response = record {
    reply = None;
    taken = with_socket socket_with_datagram (host 0x1405 neighbors_after_renewal);
    notes_taking = [];
    notes_responding = [];
    takes = rw (no_slots (pos 0)) (ethernet.Accepted (lit≤ tt) refl (ipv6.Read (record { whole = lit≤ tt; version = refl; fits = lit≤ tt })
        (ipv6.Bare refl (λ e. absurd cc) (ipv6.Accepted refl (udp.Delivered (None ∷ Some (kind.Udp socket_with_datagram) ∷ [])
        (record { whole = lit≤ tt; header_fits = lit≤ tt; fits = lit≤ tt; port = λ e. absurd (omega (arith, e)); sum = λ on summed. refl })
        (record {
          index = 1;
          place = Some (kind.Udp listening_socket);
          first = record { is_there = refl; accepts = refl; none_before = first_is_free _ (Some (kind.Udp listening_socket) ∷ []) refl };
          changed = refl;
        })
        refl refl refl)))));
    responds = (refl, refl, refl);
    all_notes = refl;
  };
  events = refl;
  answers = refl;
}
