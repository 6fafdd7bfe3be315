-- What ARP packets bring about, over plain variables.
use Rattle.std.proofs.Common.{◌≡◌, ℕ, true, false, List, [], Option, None, refl}
use Rattle.ip_wire.specs.declared.arp.ArpRepr.{ArpRepr}
use Rattle.ip_address.specs.declared.ethernet_address.EthernetAddress.{EthernetAddress}
use Rattle.ip_address.specs.declared.hardware.HardwareAddress.TheVariants as hardware
use Rattle.ip_address.specs.declared.ip.IpAddress.TheVariants.{Ipv4}
use Rattle.ip_wire.specs.Arp.{IsArp, arp_in}
use Rattle.iface_tables.specs.Neighbor.{Neighbors, Fills, expiry_from}
use Rattle.host_machine.specs.Context.Host.{Host, with_neighbors}
use Rattle.host_machine.specs.Receive.Reply.{Reply}
use Rattle.host_machine.specs.Discovery.Arp.{ProcessesArp, Learnt, NotForUs, is_for_us, answer_by}
use Rattle.iface_context.proofs.Processing.{dropped}

-- a packet is learnt from, and answered if it asks
pub arp_learnt : (own : EthernetAddress) (H K : Host) (payload : List ℕ) (r : ArpRepr) (neighbors : Neighbors) (reply : Option Reply) →
    IsArp payload × (r ≡ arp_in payload) → is_for_us H r ≡ true →
    Fills H.neighbors neighbors (Ipv4 r.source_protocol_addr)
    (record { hardware_addr = hardware.Ethernet r.source_hardware_addr; expires_at = expiry_from H.moment }) →
    K ≡ with_neighbors H neighbors → reply ≡ answer_by r.operation own r → ProcessesArp own H payload reply [] K
arp_learnt own H K payload r neighbors reply is hears fills same answers =
    Learnt is.0 (rw is.1 at hears) (record { neighbors = neighbors; filled = rw is.1 at fills; same = same }) (rw is.1 at answers) refl

-- a packet that isn't listened to
pub arp_not_accepted : (own : EthernetAddress) (H : Host) (payload : List ℕ) (r : ArpRepr) →
    IsArp payload × (r ≡ arp_in payload) → is_for_us H r ≡ false → ProcessesArp own H payload None [] H
arp_not_accepted own H payload r is deaf = NotForUs is.0 (rw is.1 at deaf) (dropped H)
