-- Worked examples, computed from the definitions: which source a host chooses over IPv4, for which targets it answers a
-- solicitation, that messages from afar change nothing, and that ICMP messages are given to the sockets that accept them.
use Rattle.std.specs.Prelude.{◌≡◌, ℕ, pos, true, false, List, [], ◌∷◌, Option, Some}
use Rattle.std.proofs.Common.{lit≤}
use Rattle.ip_address.specs.declared.cidr.IpCidr.{IpCidr}
use Rattle.ip_address.specs.declared.cidr.IpCidr.TheVariants as cidr
use Rattle.ip_address.specs.declared.ip.IpAddress.{IpAddress}
use Rattle.ip_address.specs.declared.ipv4.Ipv4Address.{Ipv4Address}
use Rattle.ip_wire.specs.declared.ipv6_packet.Ipv6Repr.{Ipv6Repr}
use Rattle.control_wire.specs.declared.ndisc.NdiscRepr.{NdiscRepr}
use Rattle.control_wire.specs.declared.icmp.IcmpRepr.{IcmpRepr}
use Rattle.host_machine.specs.Context.Note.{Note}
use Rattle.host_machine.specs.Context.Host.{Host}
use Rattle.host_machine.specs.Context.Addresses.{source_v4}
use Rattle.host_machine.specs.Receive.Reply.{Reply}
use Rattle.host_machine.specs.Discovery.Ndisc.{is_target, ProcessesNdisc}
use Rattle.host_machine.specs.Icmp.Delivery.{accepts, host_after_delivery, storage_after_delivery}
use Rattle.host_machine.specs.Sockets.Delivery.{to_each}
use Rattle.host_machine.specs.Examples.ArpAndEcho as example
use Rattle.host_machine.specs.Examples.Discovery.{host, own, neighbor}

-- 10.5.0.1/16, 192.168.69.1/24
abbrev pub networks : List IpCidr
networks =
    cidr.Ipv4 (record { address = record { bits = 0x0a050001 }; prefix_len = 16; in_range = lit≤ tt })
    ∷ cidr.Ipv4 (record { address = record { bits = 0xc0a84501 }; prefix_len = 24; in_range = lit≤ tt }) ∷ []

pub record ChoicesAreMade : Type 0 where
  -- to 192.168.69.100 and 10.5.0.9 from the address of their network, and to 8.8.8.8 from the first
  pub near : source_v4 networks (record { bits = 0xc0a84564 }) ≡ Some (record { bits = 0xc0a84501 })
  pub other_near : source_v4 networks (record { bits = 0x0a050009 }) ≡ Some (record { bits = 0x0a050001 })
  pub far : source_v4 networks (record { bits = 0x08080808 }) ≡ Some (record { bits = 0x0a050001 })
  -- a solicitation to fe80::1 is answered if it asks for that address, and not for fe80::2
  pub own_target : (r : Ipv6Repr) → is_target (host 0x1405 (example.no_neighbors (pos 0))) (record r { dst_addr = own }) own ≡ true
  pub other_target : (r : Ipv6Repr) →
      is_target (host 0x1405 (example.no_neighbors (pos 0))) (record r { dst_addr = own }) neighbor ≡ false
  -- a message of neighbour discovery with another hop limit than 255 changes nothing
  pub from_afar : (r : Ipv6Repr) (message : NdiscRepr) (H new : Host) (reply : Option Reply) (notes : List Note) →
      ProcessesNdisc (record r { hop_limit = 254 }) message H reply notes new → new ≡ H
  -- each socket that accepts a message gets it
  pub delivered : (message : IcmpRepr) (contents : List ℕ) (remote : IpAddress) (octets : List ℕ) (H : Host) →
      (host_after_delivery message contents remote octets H).sockets.places
      ≡ to_each (accepts message contents) (storage_after_delivery remote octets) H.sockets.places
