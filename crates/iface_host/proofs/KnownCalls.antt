-- The next hop to an address is one alone.
use Rattle.std.specs.Prelude.{◌≡◌, Bool, true, false, Option, Some, refl, if◌then◌else◌}
use Rattle.std.specs.Option.{option_and_then}
use Rattle.std.proofs.Common.{sym, ap, ◌∙◌}
use Rattle.ip_address.specs.Ip.{is_unicast}
use Rattle.ip_address.specs.declared.ip.IpAddress.{IpAddress}
use Rattle.iface_tables.specs.Route.{BestIsFound, RouterIsOne, best, router_of}
use Rattle.host_machine.specs.Context.Host.{Host, in_same_network}
use Rattle.host_machine.specs.Send.Hops.{ByRouter, HasNeighbor, IsNextHop, OfHost, OfNoHost, OnLink, if_unicast, is_known_hop}
use Rattle.iface_host.specs.Known.{hop_of, knows}

hop_is : RouterIsOne → BestIsFound → (H : Host) (a : IpAddress) (hop : Option IpAddress) → IsNextHop H a hop → hop ≡ hop_of H a
hop_is one found H a hop (OnLink near is) = is ∙ sym (rw near refl)
hop_is one found H a hop (ByRouter router far by is) =
    is ∙ (ap (option_and_then if_unicast) (one H.routes a H.moment router (router_of (best H.routes a H.moment)) by
    (best H.routes a H.moment, found H.routes a H.moment, refl)) ∙ sym (rw far refl))

pub known_is : RouterIsOne → BestIsFound → (H : Host) (a : IpAddress) (known : Bool) → is_unicast a ≡ true → HasNeighbor H a known → known ≡ knows H a
known_is one found H a known one_host (OfNoHost many is) = absurd (let never : true ≡ false = sym one_host ∙ many in cc)
known_is one found H a known one_host (OfHost hop host next is) =
    is ∙ (ap (is_known_hop H) (hop_is one found H a hop next) ∙ sym (rw one_host refl))
