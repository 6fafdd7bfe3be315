use Rattle.std.proofs.Common.{[], refl, None, lit≤, arith}
use Rattle.ip_wire.specs.Checksum.{word_sum}
use Rattle.ip_wire.specs.Ipv4Packet.{header_with, front, back}
use Rattle.ip_wire.specs.Pseudo.{pseudo}
use Rattle.net_base.specs.Device.{Frame}
use Rattle.host_machine.specs.Sockets.Udp as udp
use Rattle.host_machine.specs.Receive.Ipv4 as ipv4
use Rattle.host_machine.specs.Receive.Ethernet as ethernet
use Rattle.host_machine.specs.Examples.ArpAndEcho as example
use Rattle.host_machine.specs.Examples.Sockets.{datagram, having_heard, with_raw}
use Rattle.host_machine.proofs.Examples.Listeners.{none_of_one}
use Rattle.host_machine.proofs.Examples.Exchange.{no_slots}
use Rattle.std.specs.Prelude.{pos}
use Rattle.host_machine.proofs.worked_examples.raw_socket_receives.Goals as goal

pub returns : goal.returns
unfolding word_sum header_with front back pseudo
returns c = record {
  reception = Frame datagram;
  frames = [];
  response = record {
    reply = None;
    taken = with_raw having_heard (example.host 0x1405 example.neighbors_after_renewal);
    notes_taking = [];
    notes_responding = [];
    takes = rw (no_slots (pos 0)) (ethernet.Accepted (lit≤ tt) refl (ipv4.Read
        (record { whole = lit≤ tt; version = refl; header = lit≤ tt; header_fits = lit≤ tt; total_fits = lit≤ tt; sum = λ on. refl })
        (ipv4.Whole refl refl (ipv4.Accepted refl (udp.NotAccepted
        (record { whole = lit≤ tt; header_fits = lit≤ tt; fits = lit≤ tt; port = λ e. absurd (omega (arith, e)); sum = λ on summed. refl })
        (none_of_one _ _ refl) refl refl refl)))));
    responds = (refl, refl, refl);
    all_notes = refl;
  };
  events = refl;
  answers = refl;
}
