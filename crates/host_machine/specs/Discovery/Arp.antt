-- ARP, packet reception (RFC 826).
use Rattle.std.specs.Prelude.{◌≡◌, ℕ, Bool, true, false, ◌&&◌, List, [], Option, Some, None}
use Rattle.ip_wire.specs.declared.arp.ArpRepr.{ArpRepr}
use Rattle.ip_wire.specs.declared.arp.ArpOperation.{ArpOperation}
use Rattle.ip_wire.specs.declared.arp.ArpOperation.TheVariants as operation
use Rattle.ip_address.specs.declared.ethernet_address.EthernetAddress.{EthernetAddress}
use Rattle.ip_address.specs.declared.hardware.HardwareAddress.TheVariants as hardware
use Rattle.ip_address.specs.declared.ip.IpAddress.TheVariants.{Ipv4}
use Rattle.ip_address.specs.declared.ipv4.Ipv4Address.{Ipv4Address}
use Rattle.ip_wire.specs.Arp.{IsArp, arp_in}
use Rattle.ip_address.specs.EthernetAddress as ethernet
use Rattle.ip_address.specs.Ipv4 as ipv4
use Rattle.iface_tables.specs.Neighbor.{Neighbors, Fills, expiry_from}
use Rattle.host_machine.specs.Context.Note.{Note}
use Rattle.host_machine.specs.Context.Host.{Host, has_ip_addr, in_same_network, with_neighbors}
use Rattle.host_machine.specs.Receive.Reply.{Reply, Arp, IsDropped}

-- a packet is for the host if its target is one of the host's addresses, and its sender is unicast and in one
-- of the host's networks
abbrev pub is_for_us : Host → ArpRepr → Bool
is_for_us H r =
    has_ip_addr H (Ipv4 r.target_protocol_addr)
    && ipv4.is_unicast r.source_protocol_addr
    && ethernet.is_unicast r.source_hardware_addr
    && in_same_network H.ip_addrs (Ipv4 r.source_protocol_addr)

-- the sender is known at its hardware address for 60 seconds, and nothing else changes
pub record LearnsSender (H : Host) (r : ArpRepr) (new : Host) : Type 0 where
  pub neighbors : Neighbors
  pub filled : Fills H.neighbors neighbors (Ipv4 r.source_protocol_addr)
      (record { hardware_addr = hardware.Ethernet r.source_hardware_addr; expires_at = expiry_from H.moment })
  pub same : new ≡ with_neighbors H neighbors

-- who has an address? The request is sent for one of the host's addresses, and broadcast
abbrev pub request_for : EthernetAddress → Ipv4Address → Ipv4Address → ArpRepr
request_for own source target = record {
  operation = operation.Request;
  source_hardware_addr = own;
  source_protocol_addr = source;
  target_hardware_addr = ethernet.broadcast;
  target_protocol_addr = target;
}

-- the reply swaps sender and target, and gives the host's own hardware address
abbrev pub reply_to : EthernetAddress → ArpRepr → ArpRepr
reply_to own r = record {
  operation = operation.Reply;
  source_hardware_addr = own;
  source_protocol_addr = r.target_protocol_addr;
  target_hardware_addr = r.source_hardware_addr;
  target_protocol_addr = r.source_protocol_addr;
}

-- a request is answered, a reply isn't
abbrev pub answer_by : ArpOperation → EthernetAddress → ArpRepr → Option Reply
answer_by operation.Request own r = Some (Arp (reply_to own r))
answer_by operation.Reply own r = None

-- how the payload of an ARP frame is processed
pub data ProcessesArp (own : EthernetAddress) (H : Host) (payload : List ℕ) (reply : Option Reply)
    (notes : List Note) (new : Host) : Type 0 where
  Malformed : ¬ IsArp payload → IsDropped H reply notes new → ProcessesArp own H payload reply notes new
  NotForUs : IsArp payload → is_for_us H (arp_in payload) ≡ false → IsDropped H reply notes new →
      ProcessesArp own H payload reply notes new
  Learnt : IsArp payload → is_for_us H (arp_in payload) ≡ true → LearnsSender H (arp_in payload) new →
      reply ≡ answer_by (arp_in payload).operation own (arp_in payload) → notes ≡ [] →
      ProcessesArp own H payload reply notes new
