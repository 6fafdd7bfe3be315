-- Addresses and routes change by a command; what was learnt from routers changes by a frame only if that has a valid
-- advertisement (RFC 4861 6.1.2, RFC 4862 5.5).
use Rattle.std.specs.Prelude.{◌≡◌, ◌⊎◌, ℕ, ◌/◌, ◌^◌, ℤ, true, List, slice_index}
use Rattle.net_base.specs.Checksum.{is_rx}
use Rattle.net_base.specs.Device.{Event}
use Rattle.ip_address.specs.declared.ethernet_address.EthernetAddress.{EthernetAddress}
use Rattle.ip_address.specs.declared.hardware.HardwareAddress.TheVariants as hardware
use Rattle.ip_address.specs.declared.ip.IpAddress.TheVariants.{Ipv6}
use Rattle.ip_wire.specs.Ipv6Packet.{ipv6_in}
use Rattle.control_wire.specs.Icmpv6.{IsIcmpv6, icmpv6_in}
use Rattle.control_wire.specs.declared.icmpv6.Icmpv6Repr.TheVariants.{Router}
use Rattle.control_wire.specs.declared.router.RouterRepr.{RouterRepr}
use Rattle.control_wire.specs.declared.router.RouterRepr.TheVariants.{RouterSolicit, RouterAdvert}
use Rattle.host_machine.specs.declared.command.Command.{Command}
use Rattle.host_machine.specs.declared.command.Command.TheVariants.{AddDefaultIpv4Route, AddDefaultIpv6Route, Poll}
use Rattle.host_machine.specs.declared.command.Command.TheVariants.{PollMaintenance, RemoveDefaultIpv4Route}
use Rattle.host_machine.specs.declared.command.Command.TheVariants.{RemoveDefaultIpv6Route, UpdateIpAddrs, UpdateRoutes}
use Rattle.host_machine.specs.declared.command.Answer.{Answer}
use Rattle.host_machine.specs.declared.results.PollResult.{PollResult}
use Rattle.host_machine.specs.Context.Note.{Note}
use Rattle.host_machine.specs.Context.Host.{Host}
use Rattle.host_machine.specs.Interface.Step.{Act, Step}
use Rattle.host_machine.specs.Interface.Run.{Transition, Run}
use Rattle.host_machine.specs.Interface.Egress.{Egress}
use Rattle.host_laws.specs.Laws.Restraint.Neighbors.{HasMessage}
use Rattle.host_laws.specs.Laws.Restraint.Readings.{CarriesV6, Receives}

-- a router's message is an advertisement
abbrev pub IsAdvertisement : RouterRepr → Type 0
IsAdvertisement (RouterSolicit lladdr) = ⊥
IsAdvertisement (RouterAdvert hop_limit flags lifetime lladdr prefix) = Unit {0}

-- the frame has a router advertisement, from a link-local address (fe80::/10) to a link-local one or to
-- ff02::1. No router forwarded it, and its checksum is right, where that is verified
pub record HasAdvertisement (H : Host) (frame : List ℕ) : Type 0 where
  pub packet : List ℕ
  pub octets : List ℕ
  pub carried : CarriesV6 H.hardware_addr frame packet
  pub hop_limit : slice_index packet 7 ≡ 255
  pub source : (ipv6_in packet).0.src_addr.bits / 2 ^ 118 ≡ 0x3fa
  pub destination : ((ipv6_in packet).0.dst_addr.bits ≡ 0xff02_0000_0000_0000_0000_0000_0000_0001)
      ⊎ ((ipv6_in packet).0.dst_addr.bits / 2 ^ 118 ≡ 0x3fa)
  pub has_message : HasMessage packet octets
  pub is_message : IsIcmpv6 (is_rx H.capabilities.checksum.icmpv6)
      (Ipv6 (ipv6_in packet).0.src_addr) (Ipv6 (ipv6_in packet).0.dst_addr) octets
  pub message : RouterRepr
  pub values : (icmpv6_in octets).0 ≡ Router message
  pub is_advertisement : IsAdvertisement message

-- addresses, routes, settings and what was learnt from routers are as before
pub record KeepsSettings (old new : Host) : Type 0 where
  pub addresses : new.ip_addrs ≡ old.ip_addrs
  pub routes : new.routes ≡ old.routes
  pub any_ip : new.any_ip ≡ old.any_ip
  pub hardware_address : new.hardware_addr ≡ old.hardware_addr
  pub reassembly_timeout : new.reassembly_timeout ≡ old.reassembly_timeout
  pub slaac_enabled : new.slaac_enabled ≡ old.slaac_enabled
  pub prefixes : new.slaac.prefixes ≡ old.slaac.prefixes
  pub routers : new.slaac.routers ≡ old.slaac.routers

-- a host that may learn from routers: SLAAC is enabled, and its medium has hardware addresses
pub record MayLearn (H : Host) : Type 0 where
  pub enabled : H.slaac_enabled ≡ true
  pub own : EthernetAddress
  pub on_ethernet : H.hardware_addr ≡ hardware.Ethernet own

-- a call that receives a frame keeps all of that, and each group with its state, so no message of others joins or leaves
-- one; but an advertisement to a host that may learn may change what was learnt from routers
pub record KeepsAtFrame (frame : List ℕ) (old new : Host) : Type 0 where
  pub addresses : new.ip_addrs ≡ old.ip_addrs
  pub routes : new.routes ≡ old.routes
  pub any_ip : new.any_ip ≡ old.any_ip
  pub hardware_address : new.hardware_addr ≡ old.hardware_addr
  pub reassembly_timeout : new.reassembly_timeout ≡ old.reassembly_timeout
  pub slaac_enabled : new.slaac_enabled ≡ old.slaac_enabled
  pub groups : new.groups ≡ old.groups
  pub learnt : ((new.slaac.prefixes ≡ old.slaac.prefixes) × (new.slaac.routers ≡ old.slaac.routers))
      ⊎ (MayLearn old × HasAdvertisement old frame)

abbrev pub FramesKeepSettings : Type 0
FramesKeepSettings =
    (t : ℤ) (frame : List ℕ) (old new : Host) (told : List Event) (notes : List Note) →
    Receives t frame old told notes new → KeepsAtFrame frame old new

-- a call that sends keeps all of it
abbrev pub SendingKeepsSettings : Type 0
SendingKeepsSettings =
    (t : ℤ) (answer : PollResult) (old new : Host) (told : List Event) (notes : List Note) →
    Egress t answer old told notes new → KeepsSettings old new

-- a command by which addresses or routes are set, or brought in line with what was learnt from routers
abbrev pub MaySet : Command → Type 0
MaySet (UpdateIpAddrs list) = Unit {0}
MaySet (UpdateRoutes list) = Unit {0}
MaySet (AddDefaultIpv4Route gateway) = Unit {0}
MaySet RemoveDefaultIpv4Route = Unit {0}
MaySet (AddDefaultIpv6Route gateway) = Unit {0}
MaySet RemoveDefaultIpv6Route = Unit {0}
MaySet (Poll t budget) = Unit {0}
MaySet (PollMaintenance t) = Unit {0}
MaySet other = ⊥

-- a step of any other command keeps addresses and routes
abbrev pub KeepsAddressesAndRoutes : Host → Host → Type 0
KeepsAddressesAndRoutes old new = (new.ip_addrs ≡ old.ip_addrs) × (new.routes ≡ old.routes)

abbrev pub OtherStepsKeepSettings : Type 0
OtherStepsKeepSettings =
    (command : Command) (answer : Answer) (old new : Host) (told : List Event) (acts : List Act) (notes : List Note) →
    Step command answer old told acts notes new → (MaySet command → ⊥) → KeepsAddressesAndRoutes old new

-- no run changes how many neighbours there is room for
abbrev pub NeighborRoomStays : Type 0
NeighborRoomStays =
    (first last : Host) (transitions : List Transition) →
    Run first transitions last → last.neighbors.room ≡ first.neighbors.room

-- nor how many slots there are for datagrams in fragments
abbrev pub SlotRoomStays : Type 0
SlotRoomStays =
    (first last : Host) (transitions : List Transition) →
    Run first transitions last → last.slots.room ≡ first.slots.room

-- nor for how many addresses, routes and groups there is room
abbrev pub TableRoomStays : Type 0
TableRoomStays =
    (first last : Host) (transitions : List Transition) →
    Run first transitions last → (last.addr_room ≡ first.addr_room) × (last.route_room ≡ first.route_room)
    × (last.group_room ≡ first.group_room)
