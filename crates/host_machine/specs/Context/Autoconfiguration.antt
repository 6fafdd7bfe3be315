-- How addresses and routes follow what a host learnt from routers (RFC 4862 5.5).
use Rattle.std.specs.Prelude.{if◌then◌else◌}
use Rattle.iface_tables.specs.Slaac.{sync_required, slaac_after_update}
use Rattle.iface_tables.specs.Sync.{synced_addrs, synced_routes}
use Rattle.host_machine.specs.Context.Host.{Host}
use Rattle.host_machine.specs.Context.Settings.{after_address_change}

-- the host after a sync of its addresses and routes with what it learnt, as by a change of addresses; what
-- has expired is forgotten
abbrev pub with_slaac_applied : Host → Host
with_slaac_applied H =
    record (after_address_change H (synced_addrs H.addr_room H.hardware_addr H.moment H.slaac.prefixes H.ip_addrs)) {
      routes = synced_routes H.route_room H.moment H.slaac.routers H.routes;
      slaac = slaac_after_update H.slaac H.moment;
      slaac_updated_at = H.moment;
    }

-- the host after a sync if one is required: something learnt is new, was withdrawn, or has expired
abbrev pub after_sync : Host → Host
after_sync H = if sync_required H.slaac H.moment then with_slaac_applied H else H
