use Rattle.std.proofs.Common.{[], ◌∷◌, refl, inl, Some, Ok, lit≤, arith}
use Rattle.std.specs.Prelude.{pos}
use Rattle.std.specs.FinMap.{len-empty}
use Rattle.std.proofs.lemmas.List.Elements.{All-nil, All-cons}
use Rattle.net_base.specs.Device.{Frame}
use Rattle.ip_address.specs.Ip.{address_cmp}
use Rattle.ip_address.specs.Prefixes.{bits}
use Rattle.ip_wire.specs.Checksum.{word_sum}
use Rattle.ip_wire.specs.Pseudo.{pseudo}
use Rattle.ip_wire.specs.Ipv6Packet.{header_text, address_at, address_text}
use Rattle.control_wire.specs.Icmpv6.{Neighbor as Message, head_with}
use Rattle.control_wire.specs.NdiscOption.{IsOption, lladdr_text, last_of, options_from}
use Rattle.iface_tables.specs.declared.neighbor.Neighbor.{Neighbor}
use Rattle.ip_address.specs.declared.protocol.IpProtocol.TheVariants as protocol
use Rattle.host_machine.specs.Receive.Reply.{Ip}
use Rattle.host_machine.specs.Discovery.Ndisc as ndisc
use Rattle.host_machine.specs.Icmp.Icmpv6 as icmpv6
use Rattle.host_machine.specs.Receive.Ipv6 as ipv6
use Rattle.host_machine.specs.Receive.Ethernet as ethernet
use Rattle.host_machine.specs.Send.Dispatch.{ToSpecified, ByHop, Known, Whole}
use Rattle.host_machine.specs.Send.Hops.{OnLink}
use Rattle.host_machine.specs.Examples.ArpAndEcho as example
use Rattle.host_machine.specs.Examples.Discovery.{host, own, neighbor}
use Rattle.host_machine.specs.Examples.Ipv6.{advertisement, neighbors_with_sender, sender, solicitation}
use Rattle.host_machine.proofs.Examples.Exchange.{is_learnt_v6, no_slots}
use Rattle.host_machine.proofs.worked_examples.solicitation_is_answered.Goals as goal

pub returns : goal.returns
unfolding word_sum pseudo header_text address_text address_at head_with lladdr_text last_of options_from bits
returns c = record {
  reception = Frame solicitation;
  frames = advertisement ∷ [];
  response = record {
    reply = Some (Ip (ndisc.advertisement_of (record { 0 = 2 ∷ 0 ∷ 0 ∷ 0 ∷ 0 ∷ 1 ∷ [] }) (record {
      src_addr = neighbor;
      dst_addr = record { bits = 0xff02_0000_0000_0000_0000_0001_ff00_0001 };
      next_header = protocol.Icmpv6;
      payload_len = 32;
      hop_limit = 255;
    }) own));
    taken = host 0x1405 neighbors_with_sender;
    notes_taking = [];
    notes_responding = example.identify ∷ [];
    takes = rw (no_slots (pos 0)) (ethernet.Accepted (lit≤ tt) refl (ipv6.Read (record { whole = lit≤ tt; version = refl; fits = lit≤ tt })
        (ipv6.Bare refl (λ e. absurd cc) (ipv6.Accepted refl (icmpv6.Taken
        (record {
          whole_header = lit≤ tt;
          sum = λ on. refl;
          body = Message (record {
            whole = lit≤ tt;
            type = inl refl;
            code = refl;
            options = All-cons IsOption (1 ∷ 1 ∷ 2 ∷ 0 ∷ 0 ∷ 0 ∷ 0 ∷ 2 ∷ []) []
                (record { header = lit≤ tt; some = lit≤ tt; fits = lit≤ tt; allowed = refl }) (All-nil IsOption);
          });
        })
        (ndisc.FromNeighbor (record { 0 = 2 ∷ 0 ∷ 0 ∷ 0 ∷ 0 ∷ 1 ∷ [] }) refl refl
        (ndisc.Solicited own (Some (record { 0 = 2 ∷ 0 ∷ 0 ∷ 0 ∷ 0 ∷ 2 ∷ [] })) refl
        (record {
          neighbors = neighbors_with_sender;
          filled = record {
            puts = record { there = λ h. refl; room = λ h. refl; full = λ none many. absurd (omega (arith, len-empty address_cmp Neighbor)) };
            room = refl;
            silence = refl;
          };
          same = refl;
        })
        refl refl)))))));
    responds = (
      Ok tt,
      ToSpecified [] refl (ByHop sender refl (OnLink refl refl) (Known example.sender_hardware is_learnt_v6 (Whole (lit≤ tt) (record {
        source = lit≤ tt;
        destination = lit≤ tt;
        len = lit≤ tt;
        ports = tt;
      }) refl refl refl refl))) refl,
    );
    all_notes = refl;
  };
  events = refl;
  answers = refl;
}
