-- What messages of ICMPv6 bring about, over plain variables.
use Rattle.std.proofs.Common.{◌≡◌, ℕ, Bool, List, [], Option, None, ap}
use Rattle.net_base.specs.Checksum.{is_rx}
use Rattle.ip_address.specs.declared.ip.IpAddress.TheVariants.{Ipv6}
use Rattle.ip_wire.specs.declared.ipv6_packet.Ipv6Repr.{Ipv6Repr}
use Rattle.ip_wire.specs.IpPacket.{src_addr, dst_addr}
use Rattle.host_machine.specs.Context.Host.{Host, Storage, with_places}
use Rattle.host_machine.specs.Context.Note.{Note}
use Rattle.host_machine.specs.Receive.Reply.{Reply}
use Rattle.host_machine.specs.Sockets.Delivery.{to_each}
use Rattle.host_machine.specs.Icmp.Delivery as icmp
use Rattle.host_machine.specs.Icmp.Icmpv6 as icmpv6
use Rattle.control_wire.specs.declared.icmp.IcmpRepr.TheVariants.{Ipv6 as Ipv6Message}
use Rattle.control_wire.specs.Icmpv6.{IsIcmpv6, icmpv6_in}
use Rattle.control_wire.specs.declared.icmpv6.Icmpv6Repr.{Icmpv6Repr}
use Rattle.iface_context.proofs.Processing.{dropped}

-- a message of IPv6 is given to each socket that takes it, and does what it does
pub icmpv6_taken : (H K : Host) (r : Ipv6Repr) (octets contents : List ℕ) (message : Icmpv6Repr) (checked : Bool) (places : List Storage)
    (reply : Option Reply) (notes : List Note) →
    checked ≡ is_rx H.capabilities.checksum.icmpv6 → IsIcmpv6 checked (Ipv6 r.src_addr) (Ipv6 r.dst_addr) octets
    × ((message, contents) ≡ icmpv6_in octets) →
    places ≡ to_each (icmp.accepts (Ipv6Message message) contents) (icmp.storage_after_delivery (Ipv6 r.src_addr) octets) H.sockets.places →
    icmpv6.ProcessesMessage r message contents (with_places H places) reply notes K → icmpv6.ProcessesIcmpv6 r H octets reply notes K
icmpv6_taken H K r octets contents message checked places reply notes tests is delivered takes =
    let same_message : message ≡ (icmpv6_in octets).0 = ap (λ (p : Icmpv6Repr × List ℕ). p.0) is.1 in
    let same_contents : contents ≡ (icmpv6_in octets).1 = ap (λ (p : Icmpv6Repr × List ℕ). p.1) is.1 in
    icmpv6.Taken (rw tests at is.0) (rw (delivered, same_message, same_contents) at takes)

-- octets that are no message of IPv6
pub icmpv6_malformed : (H : Host) (r : Ipv6Repr) (octets : List ℕ) (checked : Bool) → checked ≡ is_rx H.capabilities.checksum.icmpv6 →
    (IsIcmpv6 checked (Ipv6 r.src_addr) (Ipv6 r.dst_addr) octets → ⊥) → icmpv6.ProcessesIcmpv6 r H octets None [] H
icmpv6_malformed H r octets checked tests none = icmpv6.Malformed (rw tests at none) (dropped H)
