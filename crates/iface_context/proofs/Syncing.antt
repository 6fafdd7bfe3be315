-- Addresses and routes in line with what was learnt, step by step.
use Rattle.std.proofs.Common.{◌≡◌, ℕ, List, refl}
use Rattle.ip_address.specs.declared.cidr.IpCidr.{IpCidr}
use Rattle.iface_tables.specs.declared.route.Route.{Route}
use Rattle.iface_tables.specs.Slaac.{slaac_after_update}
use Rattle.iface_tables.specs.Sync.{synced_addrs, synced_routes}
use Rattle.host_machine.specs.Context.Host.{Host}
use Rattle.host_machine.specs.Context.Settings.{after_address_change}
use Rattle.host_machine.specs.Context.Autoconfiguration.{with_slaac_applied}

pub in_line_by : (H K M : Host) (list : List IpCidr) (routes : List Route) (room : ℕ) →
    list ≡ synced_addrs H.addr_room H.hardware_addr H.moment H.slaac.prefixes H.ip_addrs → K ≡ after_address_change H list →
    routes ≡ synced_routes K.route_room H.moment K.slaac.routers K.routes → room ≡ K.route_room →
    M ≡ record K { routes = routes; route_room = room; slaac = slaac_after_update K.slaac K.moment; slaac_updated_at = K.moment } →
    M ≡ with_slaac_applied H
in_line_by H K M list routes room addresses k stored roomy m = rw (m, stored, roomy, k, addresses) refl
