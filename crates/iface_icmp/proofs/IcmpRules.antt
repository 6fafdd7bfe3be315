-- What ICMP messages bring about, over plain variables.
use Rattle.std.proofs.Common.{◌≡◌, ℕ, Bool, List, [], Option, None, refl, ap}
use Rattle.net_base.specs.Checksum.{is_rx}
use Rattle.ip_address.specs.declared.ip.IpAddress.TheVariants.{Ipv4}
use Rattle.ip_wire.specs.declared.ipv4_packet.Ipv4Repr.{Ipv4Repr}
use Rattle.ip_wire.specs.IpPacket.{src_addr}
use Rattle.host_machine.specs.Context.Host.{Host, Storage, with_places}
use Rattle.host_machine.specs.Receive.Reply.{Reply}
use Rattle.host_machine.specs.Sockets.Delivery.{to_each}
use Rattle.host_machine.specs.Icmp.Delivery as icmp
use Rattle.host_machine.specs.Icmp.Icmpv4 as icmpv4
use Rattle.control_wire.specs.Icmpv4.{IsIcmpv4, icmpv4_in}
use Rattle.control_wire.specs.declared.icmpv4.Icmpv4Repr.{Icmpv4Repr}
use Rattle.control_wire.specs.declared.icmp.IcmpRepr.TheVariants.{Ipv4 as Ipv4Message}
use Rattle.iface_context.proofs.Processing.{dropped}

-- a message is given to each socket that takes it, and answered
pub icmpv4_taken : (H : Host) (r : Ipv4Repr) (octets contents : List ℕ) (message : Icmpv4Repr) (checked : Bool)
    (places : List Storage) (reply : Option Reply) →
    checked ≡ is_rx H.capabilities.checksum.icmpv4 → IsIcmpv4 checked octets × ((message, contents) ≡ icmpv4_in octets) →
    places ≡ to_each (icmp.accepts (Ipv4Message message) contents) (icmp.storage_after_delivery (Ipv4 r.src_addr) octets) H.sockets.places →
    reply ≡ icmpv4.answer_to H.ip_addrs r message contents →
    icmpv4.ProcessesIcmpv4 r H octets reply [] (with_places H places)
icmpv4_taken H r octets contents message checked places reply tests is delivered replies =
    let same_message : message ≡ (icmpv4_in octets).0 = ap (λ (p : Icmpv4Repr × List ℕ). p.0) is.1 in
    let same_contents : contents ≡ (icmpv4_in octets).1 = ap (λ (p : Icmpv4Repr × List ℕ). p.1) is.1 in
    icmpv4.Taken (rw tests at is.0)
    (rw (same_message, same_contents) at replies) refl (ap (with_places H) (rw (same_message, same_contents) at delivered))

-- octets that are no message
pub icmpv4_malformed : (H : Host) (r : Ipv4Repr) (octets : List ℕ) (checked : Bool) →
    checked ≡ is_rx H.capabilities.checksum.icmpv4 → (IsIcmpv4 checked octets → ⊥) → icmpv4.ProcessesIcmpv4 r H octets None [] H
icmpv4_malformed H r octets checked tests none = icmpv4.Malformed (rw tests at none) (dropped H)
