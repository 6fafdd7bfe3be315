use Rattle.std.proofs.Common.{[], ◌∷◌, refl, sym, ap, Some, Err, lit≤}
use Rattle.std.specs.Prelude.{pos}
use Rattle.ip_wire.specs.Arp.{ipv4_over_ethernet}
use Rattle.ip_wire.specs.Checksum.{word_sum}
use Rattle.control_wire.specs.Icmpv4.{Request}
use Rattle.control_wire.specs.declared.icmpv4.Icmpv4Repr.TheVariants.{EchoReply}
use Rattle.net_base.specs.Device.{Frame}
use Rattle.host_machine.specs.declared.results.DispatchError.TheVariants.{NeighborPending}
use Rattle.host_machine.specs.Context.Note.{Ask, OfDiscovery}
use Rattle.host_machine.specs.Receive.Reply.{Ip}
use Rattle.host_machine.specs.Packet.Packet.{Ipv4}
use Rattle.host_machine.specs.Icmp.Icmpv4 as icmpv4
use Rattle.host_machine.specs.Receive.Ipv4 as ipv4
use Rattle.host_machine.specs.Receive.Ethernet as ethernet
use Rattle.host_machine.specs.Send.Dispatch.{ToSpecified, ByHop, Unknown}
use Rattle.host_machine.specs.Send.Hops.{OnLink}
use Rattle.host_machine.specs.Send.Requests.{Asked}
use Rattle.host_machine.specs.Packet.Packet as packet
use Rattle.host_machine.specs.Examples.ArpAndEcho as example
use Rattle.host_machine.proofs.Examples.Exchange.{is_unknown, none_renewed, no_slots}
use Rattle.host_machine.proofs.worked_examples.sender_is_discovered.Goals as goal

pub returns : goal.returns
unfolding ipv4_over_ethernet word_sum
returns c = record {
  reception = Frame example.echo_request;
  frames = example.discovery ∷ [];
  response = record {
    reply = Some (Ip (Ipv4 (record {
      src_addr = record { bits = 0xc0a84501 };
      dst_addr = record { bits = 0xc0a84564 };
      hop_limit = 64;
      payload = packet.Icmpv4 (EchoReply 0x1234 1) (0x61 ∷ 0x62 ∷ 0x63 ∷ 0x64 ∷ []);
    })));
    taken = example.host 0x1405 (example.no_neighbors (pos 0));
    notes_taking = [];
    notes_responding = example.identify ∷ OfDiscovery (Ask (pos 0)) ∷ [];
    takes = rw (no_slots (pos 0)) (ethernet.Accepted (lit≤ tt) refl (ipv4.Read
        (record { whole = lit≤ tt; version = refl; header = lit≤ tt; header_fits = lit≤ tt; total_fits = lit≤ tt; sum = λ on. refl })
        (ipv4.Whole refl refl (ipv4.Accepted refl (icmpv4.Taken (record {
          whole_header = lit≤ tt;
          sum = λ on. refl;
          body = Request refl refl;
        }) refl refl (ap (example.host 0x1405) (sym none_renewed)))))));
    responds = (
      Err NeighborPending,
      ToSpecified (OfDiscovery (Ask (pos 0)) ∷ []) refl (ByHop example.sender refl (OnLink refl refl)
          (Unknown is_unknown (Asked (record { bits = 0xc0a84564 }) (record { bits = 0xc0a84501 }) refl refl refl refl refl refl))) refl,
    );
    all_notes = refl;
  };
  events = refl;
  answers = refl;
}
