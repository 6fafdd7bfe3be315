-- Requests for the hardware address of a neighbour (RFC 826, packet generation; RFC 4861 7.2.2).
use Rattle.std.specs.Prelude.{◌≡◌, ℕ, List, [], ◌∷◌, Some, None, Err}
use Rattle.net_base.specs.Time.{silence_from}
use Rattle.ip_address.specs.declared.ethernet_address.EthernetAddress.{EthernetAddress}
use Rattle.ip_address.specs.declared.hardware.HardwareAddress.TheVariants as hardware
use Rattle.ip_address.specs.declared.ipv4.Ipv4Address.{Ipv4Address}
use Rattle.ip_address.specs.declared.ipv6.Ipv6Address.{Ipv6Address}
use Rattle.ip_address.specs.declared.ip.IpAddress.{IpAddress}
use Rattle.ip_address.specs.declared.ip.IpAddress.TheVariants.{Ipv4, Ipv6}
use Rattle.ip_address.specs.Ipv6.{solicited_node}
use Rattle.ip_address.specs.AddressSelection.Ipv6.{source_v6}
use Rattle.iface_tables.specs.Neighbor.{Neighbors}
use Rattle.host_machine.specs.declared.results.DispatchError.TheVariants.{NoRoute, NeighborPending}
use Rattle.host_machine.specs.Context.Note.{Note, OfDiscovery, OfIdentification, Ask, Identify}
use Rattle.host_machine.specs.Context.Host.{Host, with_neighbors, with_next_id}
use Rattle.host_machine.specs.Context.Addresses.{source_v4}
use Rattle.host_machine.specs.Discovery.Arp.{request_for}
use Rattle.host_machine.specs.Discovery.Ndisc.{solicitation_for}
use Rattle.host_machine.specs.Packet.Frame.{arp_frame, ip_frame}
use Rattle.host_machine.specs.Send.Outcome.{Outcome, IsUnsent}
use Rattle.host_machine.specs.Send.Hops.{group_address_v6}

-- no discovery is sent for a second
abbrev pub with_silence : Neighbors → Host → Neighbors
with_silence n H = record n { silent_until = silence_from H.moment }

-- a request for a neighbour, from the source address for it: over IPv4 by ARP (RFC 826, packet generation;
-- RFC 1122 2.3.2.1), over IPv6 by a solicitation, which is a dispatch of its own to a group, and uses an
-- identification (RFC 4861 7.2.2)
pub data Discovers (own : EthernetAddress) (hop : IpAddress) (outcome : Outcome) (H : Host)
    (frames : List (List ℕ)) (notes : List Note)
    (new : Host) : Type 0 where
  Asked : (target source : Ipv4Address) →
      hop ≡ Ipv4 target → source_v4 H.ip_addrs target ≡ Some source → outcome ≡ Err NeighborPending →
      frames ≡ arp_frame (request_for own source target) ∷ [] → notes ≡ OfDiscovery (Ask H.moment) ∷ [] →
      new ≡ with_neighbors H (with_silence H.neighbors H) →
      Discovers own hop outcome H frames notes new
  NoSource : (target : Ipv4Address) → hop ≡ Ipv4 target → source_v4 H.ip_addrs target ≡ None →
      outcome ≡ Err NoRoute → IsUnsent H frames notes new →
      Discovers own hop outcome H frames notes new
  Solicited : (target : Ipv6Address) → hop ≡ Ipv6 target → outcome ≡ Err NeighborPending →
      frames ≡ ip_frame H (hardware.Ethernet (group_address_v6 (solicited_node target)))
      (solicitation_for own (source_v6 H.ip_addrs target) target) ∷ [] →
      notes ≡ OfIdentification (Identify H.ipv4_id) ∷ OfDiscovery (Ask H.moment) ∷ [] →
      new ≡ with_neighbors (with_next_id H) (with_silence H.neighbors H) → Discovers own hop outcome H frames notes new
