-- Which router advertisements a host learns from (RFC 4861 6.1.2, 6.3.4).
use Rattle.std.specs.Prelude.{◌==◌, ◌&&◌, ◌||◌, Bool, if◌then◌else◌}
use Rattle.ip_address.specs.Ipv6.{all_nodes, is_link_local}
use Rattle.ip_wire.specs.declared.ipv6_packet.Ipv6Repr.{Ipv6Repr}
use Rattle.control_wire.specs.declared.router.RouterRepr.{RouterRepr}
use Rattle.control_wire.specs.declared.router.RouterRepr.TheVariants.{RouterSolicit, RouterAdvert}
use Rattle.iface_tables.specs.Slaac.{SlaacState, slaac_after_message, seconds}
use Rattle.host_machine.specs.Context.Host.{Host}
use Rattle.host_machine.specs.Interface.Config.{is_ethernet}

-- an advertisement is valid if SLAAC is enabled, on a link with hardware addresses, and no router forwarded it. It must
-- be from a link-local address, to all-nodes or to a link-local address (RFC 4861 6.1.2, 4.2)
abbrev pub is_valid_advertisement : Host → Ipv6Repr → Bool
is_valid_advertisement H r =
    H.slaac_enabled && is_ethernet H.hardware_addr && (r.hop_limit == 255) && is_link_local r.src_addr
    && ((r.dst_addr.bits == all_nodes.bits) || is_link_local r.dst_addr)

-- what is learnt from a message: from a valid advertisement the router, by its source, and a prefix; a solicitation is
-- for routers (RFC 4861 6.2.6)
abbrev pub after_advertisement : RouterRepr → Host → Ipv6Repr → SlaacState
after_advertisement (RouterSolicit lladdr) H r = H.slaac
after_advertisement (RouterAdvert hop_limit flags lifetime lladdr prefix) H r =
    if is_valid_advertisement H r then slaac_after_message H.slaac r.src_addr (seconds lifetime) prefix H.moment
    else H.slaac
