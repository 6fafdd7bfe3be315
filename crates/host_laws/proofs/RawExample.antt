-- How a host with a raw socket processes a frame of its protocol, and one of another.
use Rattle.std.proofs.Common.{◌≡◌, ℕ, zero, suc, Bool, true, false, List, [], ◌∷◌, refl, Some, None, Ok, lit≤, arith}
use Rattle.std.specs.Prelude.{pos}
use Rattle.std.specs.FinMap as map
use Rattle.std.specs.FinMap.{get-insert}
use Rattle.net_base.specs.Device.{Received, Frame, Asked, Sent}
use Rattle.ip_wire.specs.Checksum.{word_sum}
use Rattle.ip_wire.specs.Pseudo.{pseudo}
use Rattle.ip_address.specs.declared.hardware.HardwareAddress.TheVariants as hardware
use Rattle.ip_address.specs.declared.ethernet_address.EthernetAddress.{EthernetAddress}
use Rattle.ip_address.specs.declared.protocol.IpProtocol.TheVariants as protocol
use Rattle.ip_wire.specs.declared.ethernet.EthernetProtocol.TheVariants as ethertype
use Rattle.ip_wire.specs.Ipv4Packet.{header_with, front, back}
use Rattle.control_wire.specs.Icmpv4.{head_with}
use Rattle.control_wire.specs.declared.icmpv4.Icmpv4DstUnreachable.TheVariants.{PortUnreachable}
use Rattle.control_wire.specs.declared.icmpv4.Icmpv4Repr.TheVariants.{DstUnreachable}
use Rattle.iface_tables.specs.declared.neighbor.Answer.TheVariants.{Found}
use Rattle.iface_tables.specs.declared.neighbor.Neighbor.{Neighbor}
use Rattle.iface_tables.specs.Neighbor.{answer_of}
use Rattle.iface_tables.proofs.NeighborLemmas.{address_total}
use Rattle.host_machine.specs.declared.results.PollIngressSingleResult.TheVariants as result
use Rattle.host_machine.specs.Context.Host.{Storage}
use Rattle.host_machine.specs.Sockets.Delivery.{NoneAccepts}
use Rattle.host_machine.specs.Receive.Ethernet as ethernet
use Rattle.host_machine.specs.Receive.Ipv4 as ipv4
use Rattle.host_machine.specs.Receive.Reply.{Ip}
use Rattle.host_machine.specs.Sockets.Udp as udp
use Rattle.host_machine.specs.Send.Dispatch.{ToSpecified, ByHop, Known, Whole}
use Rattle.host_machine.specs.Send.Hops.{OnLink}
use Rattle.host_machine.specs.Packet.Packet.{Ipv4}
use Rattle.host_machine.specs.Packet.Packet as packets
use Rattle.host_machine.specs.declared.results.PollResult.TheVariants as poll
use Rattle.host_machine.specs.declared.results.Turn.TheVariants.{Done}
use Rattle.sockets.specs.declared.socket.SocketOf.TheVariants as kind
use Rattle.host_machine.specs.Interface.Egress.{Egress}
use Rattle.host_machine.specs.Sockets.Turns as egress
use Rattle.host_machine.proofs.Interface.RoundWithoutPieces.{no_piece}
use Rattle.host_machine.specs.Interface.Ingress.{Ingress}
use Rattle.host_laws.specs.Laws.Frames as frames
use Rattle.host_machine.specs.Examples.ArpAndEcho as example
use Rattle.host_machine.specs.Examples.Sockets.{datagram, port_unreachable, unknown_protocol_frame, with_raw}
use Rattle.host_laws.specs.Deliveries as spec
use Rattle.host_laws.specs.RawArrivals.{RawArrival, BringsRaw, OverIpv4, InFragments, OverIpv6, AfterOptions, with_arrivals}
use Rattle.host_laws.specs.RawExample.{datagram_packet, host, packet, raw_socket, sent_frame, socket_to_send, socket_with_packet}
use Rattle.host_laws.proofs.QueuedExample.{no_slots}

-- what the frames bring
pub packet_brought : BringsRaw host unknown_protocol_frame [] packet
unfolding word_sum
packet_brought = OverIpv4 _ (frames.OverEthernet (record { 0 = 2 ∷ 0 ∷ 0 ∷ 0 ∷ 0 ∷ 1 ∷ [] }) refl (lit≤ tt) refl refl refl)
    (record { whole = lit≤ tt; version = refl; header = lit≤ tt; header_fits = lit≤ tt; total_fits = lit≤ tt; sum = λ on. refl })
    refl refl refl

pub datagram_brought : BringsRaw host datagram [] datagram_packet
unfolding word_sum
datagram_brought = OverIpv4 _ (frames.OverEthernet (record { 0 = 2 ∷ 0 ∷ 0 ∷ 0 ∷ 0 ∷ 1 ∷ [] }) refl (lit≤ tt) refl refl refl)
    (record { whole = lit≤ tt; version = refl; header = lit≤ tt; header_fits = lit≤ tt; total_fits = lit≤ tt; sum = λ on. refl })
    refl refl refl

-- one of ARP brings none
not_four : ethertype.Arp ≡ ethertype.Ipv4 → ⊥
not_four e = cc

not_six : ethertype.Arp ≡ ethertype.Ipv6 → ⊥
not_six e = cc

no_address : (a : EthernetAddress) → hardware.Ethernet a ≡ hardware.Ip → ⊥
no_address a e = cc

no_ipv4 : (p : List ℕ) → frames.Carries host.hardware_addr example.request p → ⊥
no_ipv4 p (frames.OverEthernet a e w for type at) = not_four type
no_ipv4 p (frames.AsItStands e v at) = no_address _ e

no_ipv6 : (p : List ℕ) → spec.CarriesIpv6 host.hardware_addr example.request p → ⊥
no_ipv6 p (spec.OverEthernet a e w for type at) = not_six type
no_ipv6 p (spec.AsItStands e v at) = no_address _ e

pub none_brought : (a : RawArrival) → BringsRaw host example.request [] a → ⊥
none_brought a (OverIpv4 p c i s g is) = no_ipv4 p c
none_brought a (InFragments p octets earlier c i s g n is) = no_ipv4 p c
none_brought a (OverIpv6 p c i u z for is) = no_ipv6 p c
none_brought a (AfterOptions p c i u z o skip for is) = no_ipv6 p c

-- the socket stores the packet as it was in the frame
pub packet_queued : with_arrivals true (packet ∷ []) raw_socket ≡ socket_with_packet
unfolding word_sum header_with front back
packet_queued = refl

-- the calls
pub packet_taken : Ingress (pos 0) result.SocketStateChanged host (Received (pos 0) (Frame unknown_protocol_frame) ∷ []) []
    (with_raw socket_with_packet (example.host 0x1405 example.neighbors_after_renewal))
unfolding word_sum header_with front back
packet_taken = record {
  reception = Frame unknown_protocol_frame;
  frames = [];
  response = record {
    reply = None;
    taken = with_raw socket_with_packet (example.host 0x1405 example.neighbors_after_renewal);
    notes_taking = [];
    notes_responding = [];
    takes = rw (no_slots (pos 0)) (ethernet.Accepted (lit≤ tt) refl (ipv4.Read
        (record { whole = lit≤ tt; version = refl; header = lit≤ tt; header_fits = lit≤ tt; total_fits = lit≤ tt; sum = λ on. refl })
        (ipv4.Whole refl refl (ipv4.Accepted refl (record { replied = refl; unnoted = refl; unchanged = refl })))));
    responds = (refl, refl, refl);
    all_notes = refl;
  };
  events = refl;
  answers = refl;
}

is_known : answer_of example.neighbors_after_renewal example.sender (pos 0) ≡ Found example.sender_hardware
is_known =
    let entry : Neighbor = record { hardware_addr = example.sender_hardware; expires_at = pos 60000000 } in
    let is_learnt : map.get example.neighbors_with_sender.known example.sender ≡ Some entry =
    get-insert address_total map.empty example.sender entry example.sender in
    rw (is_learnt, get-insert address_total (map.insert map.empty example.sender entry) example.sender entry example.sender) refl

none_of_one : (test : Storage → Bool) (a : Storage) → test a ≡ false → NoneAccepts test (a ∷ [])
none_of_one test a not_a zero other there = let same : a ≡ other = cc in rw (← same) not_a
none_of_one test a not_a (suc k) other there = absurd cc

pub datagram_taken : Ingress (pos 0) result.SocketStateChanged host
    (Received (pos 0) (Frame datagram) ∷ Sent 0 port_unreachable ∷ []) (example.identify ∷ [])
    (with_raw raw_socket (example.host 0x1406 example.neighbors_after_renewal))
unfolding word_sum header_with front back pseudo head_with
datagram_taken = record {
  reception = Frame datagram;
  frames = port_unreachable ∷ [];
  response = record {
    reply = Some (Ip (Ipv4 (record {
      src_addr = record { bits = 0xc0a84501 };
      dst_addr = record { bits = 0xc0a84564 };
      hop_limit = 64;
      payload = packets.Icmpv4 (DstUnreachable PortUnreachable (record {
        src_addr = record { bits = 0xc0a84564 };
        dst_addr = record { bits = 0xc0a84501 };
        next_header = protocol.Udp;
        payload_len = 10;
        hop_limit = 64;
      })) (0x13 ∷ 0x88 ∷ 0x1b ∷ 0x39 ∷ 0 ∷ 0x0a ∷ 0x5c ∷ 0xf9 ∷ 0x68 ∷ 0x69 ∷ []);
    })));
    taken = with_raw raw_socket (example.host 0x1405 example.neighbors_after_renewal);
    notes_taking = [];
    notes_responding = example.identify ∷ [];
    takes = rw (no_slots (pos 0)) (ethernet.Accepted (lit≤ tt) refl (ipv4.Read
        (record { whole = lit≤ tt; version = refl; header = lit≤ tt; header_fits = lit≤ tt; total_fits = lit≤ tt; sum = λ on. refl })
        (ipv4.Whole refl refl (ipv4.Accepted refl (udp.NotAccepted
        (record { whole = lit≤ tt; header_fits = lit≤ tt; fits = lit≤ tt; port = λ e. absurd (omega (arith, e)); sum = λ on summed. refl })
        (none_of_one _ _ refl) refl refl refl)))));
    responds = (
      Ok tt,
      ToSpecified [] refl (ByHop example.sender refl (OnLink refl refl)
          (Known example.sender_hardware is_known (Whole (lit≤ tt) (record {
            source = lit≤ tt;
            destination = lit≤ tt;
            len = lit≤ tt;
            ports = tt;
          }) refl refl refl refl))) refl,
    );
    all_notes = refl;
  };
  events = refl;
  answers = refl;
}

-- a call that sends
is_reachable : answer_of example.neighbors_with_sender example.sender (pos 0) ≡ Found example.sender_hardware
is_reachable =
    let entry : Neighbor = record { hardware_addr = example.sender_hardware; expires_at = pos 60000000 } in
    rw (get-insert address_total map.empty example.sender entry example.sender) refl

pub packet_sent : Egress (pos 0) poll.SocketStateChanged (with_raw socket_to_send (example.host 0x1405 example.neighbors_with_sender))
    (Asked (pos 0) true ∷ Sent 0 sent_frame ∷ []) (example.identify ∷ [])
    (with_raw raw_socket (example.host 0x1406 example.neighbors_with_sender))
unfolding word_sum header_with front back
packet_sent = record {
  changed = true;
  round = no_piece refl refl refl refl refl refl (egress.Whole (egress.Goes Done _ _ _ egress.Begins
      (egress.Served (kind.Raw socket_to_send) (kind.Raw raw_socket) false
      (with_raw socket_to_send (example.host 0x1406 example.neighbors_with_sender)) refl tt refl
      (egress.Sent (Ipv4 (record {
        src_addr = record { bits = 0xc0a84501 };
        dst_addr = record { bits = 0xc0a84564 };
        hop_limit = 64;
        payload = packets.Raw (protocol.Unknown 99) (0x61 ∷ 0x62 ∷ 0x63 ∷ 0x64 ∷ []);
      }))
      (Ok tt) (sent_frame ∷ []) refl
      (ToSpecified [] refl (ByHop example.sender refl (OnLink refl refl)
      (Known example.sender_hardware is_reachable (Whole (lit≤ tt) (record {
        source = lit≤ tt;
        destination = lit≤ tt;
        len = lit≤ tt;
        ports = tt;
      }) refl refl refl refl))) refl)
      refl refl refl)
      refl)
      refl));
  answers = refl;
}
