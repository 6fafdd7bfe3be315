-- How a host solicits router advertisements (RFC 4861 6.3.7).
use Rattle.std.specs.Prelude.{◌≡◌, ℕ, ℤ, true, false, List, [], ◌∷◌, Option, Some, None, if◌then◌else◌}
use Rattle.std.specs.Option.{option_and_then}
use Rattle.net_base.specs.Device.{Event, Asked}
use Rattle.ip_address.specs.declared.cidr.IpCidr.{IpCidr}
use Rattle.ip_address.specs.declared.ethernet_address.EthernetAddress.{EthernetAddress}
use Rattle.ip_address.specs.declared.hardware.HardwareAddress.{HardwareAddress}
use Rattle.ip_address.specs.declared.hardware.HardwareAddress.TheVariants as hardware
use Rattle.ip_address.specs.declared.ipv6.Ipv6Address.{Ipv6Address}
use Rattle.control_wire.specs.declared.icmpv6.Icmpv6Repr.TheVariants.{Router}
use Rattle.control_wire.specs.declared.router.RouterRepr.TheVariants.{RouterSolicit}
use Rattle.iface_tables.specs.Slaac.{retry_at, rs_required, rs_sent}
use Rattle.host_machine.specs.Context.Note.{Note}
use Rattle.host_machine.specs.Context.Host.{Host, with_slaac}
use Rattle.host_machine.specs.Context.Addresses.{link_local_addr}
use Rattle.host_machine.specs.Packet.Packet.{Packet, Ipv6, Icmpv6}
use Rattle.host_machine.specs.Packet.Frame.{sends}
use Rattle.host_machine.specs.Send.Outcome.{Outcome}
use Rattle.host_machine.specs.Send.Dispatch.{Dispatches}

-- the all-routers address of the link, ff02::2
abbrev pub all_routers : Ipv6Address
all_routers = record { bits = 0xff02_0000_0000_0000_0000_0000_0000_0002 }

-- a router solicitation with the host's hardware address, and with the hop limit by which receivers see that no router
-- forwarded it (RFC 4861 4.1)
abbrev pub solicitation_from : EthernetAddress → Ipv6Address → Packet
solicitation_from own source = Ipv6 (record {
  src_addr = source;
  dst_addr = all_routers;
  hop_limit = 255;
  payload = Icmpv6 (Router (RouterSolicit (Some own))) [];
})

-- from the first link-local address of the host, if there is one
abbrev pub solicitation_by : HardwareAddress → List IpCidr → Option Packet
solicitation_by (hardware.Ethernet own) addresses =
    option_and_then (λ source. Some (solicitation_from own source)) (link_local_addr addresses)
solicitation_by hardware.Ip addresses = None

-- the router solicitation of the host, if SLAAC is enabled and there is an address to send it from
abbrev pub router_solicitation : Host → Option Packet
router_solicitation H = if H.slaac_enabled then solicitation_by H.hardware_addr H.ip_addrs else None

-- the solicitation that is due at the host's moment (RFC 4861 6.3.7)
abbrev pub due_solicitation : Host → Option Packet
due_solicitation H = if rs_required H.slaac H.moment then router_solicitation H else None

-- when the next one is due, if one may be sent
abbrev pub rs_poll_at : Host → Option ℤ
rs_poll_at H = option_and_then (λ p. retry_at H.slaac) (router_solicitation H)

-- the solicitation that is due is sent, if the device grants a transmit token, and counts as sent, whatever came of it
pub data NdiscRsEgress (H : Host) (told : List Event) (notes : List Note) (new : Host) : Type 0 where
  NotDue : due_solicitation H ≡ None → told ≡ [] → notes ≡ [] → new ≡ H → NdiscRsEgress H told notes new
  NotGranted : (p : Packet) → due_solicitation H ≡ Some p →
      told ≡ Asked H.moment false ∷ [] → notes ≡ [] → new ≡ H → NdiscRsEgress H told notes new
  Goes : (p : Packet) (outcome : Outcome) (frames : List (List ℕ)) (mid : Host) →
      due_solicitation H ≡ Some p → Dispatches p outcome H frames notes mid →
      told ≡ Asked H.moment true ∷ sends frames → new ≡ with_slaac mid (rs_sent mid.slaac mid.moment) →
      NdiscRsEgress H told notes new
