-- What messages of neighbours bring about, over plain variables.
use Rattle.std.proofs.Common.{◌≡◌, Bool, true, false, List, [], Option, Some, None, refl}
use Rattle.std.specs.Prelude.{◌==◌, if◌then◌else◌}
use Rattle.ip_address.specs.declared.ethernet_address.EthernetAddress.{EthernetAddress}
use Rattle.ip_address.specs.declared.hardware.HardwareAddress.TheVariants as hardware
use Rattle.ip_address.specs.declared.ipv6.Ipv6Address.{Ipv6Address}
use Rattle.ip_wire.specs.declared.ipv6_packet.Ipv6Repr.{Ipv6Repr}
use Rattle.control_wire.specs.declared.ndisc.NdiscRepr.{NdiscRepr}
use Rattle.control_wire.specs.declared.ndisc.NdiscRepr.TheVariants.{NeighborSolicit}
use Rattle.host_machine.specs.Context.Note.{Note}
use Rattle.host_machine.specs.Context.Host.{Host}
use Rattle.host_machine.specs.Receive.Reply.{Reply, Ip}
use Rattle.host_machine.specs.Discovery.Ndisc.{ProcessesNdisc, ProcessesNdiscMessage, FromNeighbor, Learns}
use Rattle.host_machine.specs.Discovery.Ndisc.{Solicited, advertisement_of, is_target, has_no_unicast, usable_lladdr}

-- it counts on a link with hardware addresses, if no router passed it on
pub from_neighbor : (own : EthernetAddress) (r : Ipv6Repr) (message m : NdiscRepr) (H K : Host) (reply : Option Reply) (notes : List Note) →
    H.hardware_addr ≡ hardware.Ethernet own → (r.hop_limit == 255) ≡ true → message ≡ m →
    ProcessesNdiscMessage own r H reply notes K m → ProcessesNdisc r message H reply notes K
from_neighbor own r message m H K reply notes addressed near is hears = FromNeighbor own near addressed (rw is hears)

-- a solicitation teaches where its sender is, and is answered if it asks for the host
pub solicited_by : (own : EthernetAddress) (r : Ipv6Repr) (H K : Host) (target : Ipv6Address)
    (lladdr address : Option EthernetAddress) (asked : Bool) (reply : Option Reply) →
    has_no_unicast lladdr target ≡ false → address ≡ usable_lladdr lladdr target → Learns address r.src_addr H K → asked ≡ is_target H r target →
    reply ≡ (if asked then Some (Ip (advertisement_of own r target)) else None) →
    ProcessesNdiscMessage own r H reply [] K (NeighborSolicit target lladdr)
solicited_by own r H K target lladdr address asked reply specified tells learns asks answers =
    Solicited target lladdr specified (rw tells at learns) (rw asks at answers) refl
