-- Where packets for an address go, from the steps that find it.
use Rattle.std.proofs.Common.{◌≡◌, ℕ, ◌+◌, ◌<◌, ◌≤◌, List, [], length, Option, Some, None, Result, Ok, Err, refl, sym, subst, arith}
use Rattle.net_base.specs.Checksum.{room_in}
use Rattle.net_base.specs.declared.phy.Medium.{Medium}
use Rattle.net_base.specs.declared.phy.Medium.TheVariants as medium
use Rattle.ip_address.specs.Hardware.{medium_of, IsOf}
use Rattle.ip_address.specs.declared.ethernet_address.EthernetAddress.{EthernetAddress}
use Rattle.ip_address.specs.declared.hardware.HardwareAddress.{HardwareAddress}
use Rattle.ip_address.specs.declared.hardware.HardwareAddress.TheVariants as hardware
use Rattle.ip_address.specs.declared.ip.IpAddress.{IpAddress}
use Rattle.ip_wire.specs.declared.ethernet.EthernetProtocol.{EthernetProtocol}
use Rattle.ip_wire.specs.declared.ethernet.EthernetProtocol.TheVariants as protocol
use Rattle.iface_tables.specs.declared.neighbor.Answer.TheVariants.{Found, NotFound, RateLimited}
use Rattle.iface_tables.specs.Neighbor.{answer_of}
use Rattle.fragmentation.specs.Slots.{Slots}
use Rattle.host_machine.specs.Context.Note.{Note}
use Rattle.host_machine.specs.Context.Host.{Host, SocketSet, no_sockets}
use Rattle.host_machine.specs.Packet.Packet.{Packet, total_len}
use Rattle.host_machine.specs.Packet.Packet as packet
use Rattle.host_machine.specs.Packet.Frame.{ethertype_of, link_header}
use Rattle.host_machine.specs.Send.Outcome.{Outcome}
use Rattle.host_machine.specs.Send.Dispatch.{Emits, SendsOver, DispatchesEthernet, ToMulticast, NoHop, ByHop, Known, Silent, Unknown, destination_of}
use Rattle.host_machine.specs.Send.Requests.{Discovers}
use Rattle.host_machine.specs.Send.Hops.{IsNextHop, multicast_hardware_addr}
use Rattle.host_machine.specs.declared.results.DispatchError.{DispatchError}
use Rattle.host_machine.specs.declared.results.DispatchError.TheVariants.{NoRoute, NeighborPending}
use Rattle.host_machine.proofs.Send.Reached.{ByNeighbor}
use Rattle.host_machine.proofs.Send.Reached.{reached_of}
use Rattle.iface_context.specs.declared.context.Context.{Context}
use Rattle.iface_send.specs.Destination.{IsReached, IsRefused, ethertype_to}
use Rattle.iface_context.specs.Stands.{host_in, host_of}
use Rattle.iface_context.proofs.Building.{unsent, nothing}

-- the EtherType of a packet is that of its destination
pub same_ethertype : (p : Packet) → ethertype_to (destination_of p) ≡ ethertype_of p
same_ethertype (packet.Ipv4 p) = refl
same_ethertype (packet.Ipv6 p) = refl

-- a packet isn't empty
pub some_octets : (p : Packet) → 0 < total_len p
some_octets (packet.Ipv4 p) = omega arith
some_octets (packet.Ipv6 p) = omega arith

-- a frame that begins with a link's header has room for a packet
pub room_behind : (m : Medium) (n : ℕ) (own to : HardwareAddress) (e : EthernetProtocol) (out : List ℕ) →
    medium_of own ≡ m → n ≤ 1514 → out ≡ link_header own to e → length out ≤ 14 → length out + room_in m n ≤ 1514
room_behind medium.Ethernet n own to e out of fits is short = omega (arith, fits, short)
room_behind medium.Ip n (hardware.Ethernet own) to e out of fits is short = absurd cc
room_behind medium.Ip n hardware.Ip (hardware.Ethernet to) e out of fits is short = rw is (omega (arith, fits))
room_behind medium.Ip n hardware.Ip hardware.Ip e out of fits is short = rw is (omega (arith, fits))

over_ethernet : {id : ℕ} {p : Packet} {outcome : Outcome} {H new : Host} {frames : List (List ℕ)} {notes : List Note} {own : EthernetAddress}
    (h : HardwareAddress) → h ≡ hardware.Ethernet own → DispatchesEthernet id own p outcome H frames notes new →
    SendsOver id h p outcome H frames notes new
over_ethernet {id} {p} {outcome} {H} {new} {frames} {notes} h is sends =
    subst (λ (k : HardwareAddress). SendsOver id k p outcome H frames notes new) (sym is) sends

over_ip : {id : ℕ} {p : Packet} {outcome : Outcome} {H new : Host} {frames : List (List ℕ)} {notes : List Note} (h : HardwareAddress) →
    h ≡ hardware.Ip → Emits id p hardware.Ip outcome H frames notes new → SendsOver id h p outcome H frames notes new
over_ip {id} {p} {outcome} {H} {new} {frames} {notes} h is sends =
    subst (λ (k : HardwareAddress). SendsOver id k p outcome H frames notes new) (sym is) sends

of_ip : (m : Medium) (h : HardwareAddress) → medium_of h ≡ m → h ≡ hardware.Ip → IsOf m hardware.Ip
of_ip medium.Ethernet (hardware.Ethernet e) of is = absurd cc
of_ip medium.Ethernet hardware.Ip of is = absurd cc
of_ip medium.Ip h of is = tt

of_ethernet : (m : Medium) (h : HardwareAddress) (own e : EthernetAddress) → medium_of h ≡ m → h ≡ hardware.Ethernet own → length e.0 ≡ 6 →
    IsOf m (hardware.Ethernet e)
of_ethernet medium.Ethernet h own e of is six = six
of_ethernet medium.Ip (hardware.Ethernet o) own e of is six = absurd cc
of_ethernet medium.Ip hardware.Ip own e of is six = absurd cc

-- on a medium without hardware addresses
pub by_medium : (c : Context) (a : IpAddress) → c.hardware_addr ≡ hardware.Ip → IsReached c a hardware.Ip
by_medium c a is = record {
  of_medium = of_ip c.capabilities.medium c.hardware_addr c.of_medium is;
  sends = λ id p outcome slots sockets frames notes new to emits. over_ip c.hardware_addr is emits;
}

-- a group or a broadcast
pub to_many : (c : Context) (a : IpAddress) (own many : EthernetAddress) → c.hardware_addr ≡ hardware.Ethernet own →
    multicast_hardware_addr c.ip_addrs.items a ≡ Some many → length many.0 ≡ 6 → IsReached c a (hardware.Ethernet many)
to_many c a own many is group six = record {
  of_medium = of_ethernet c.capabilities.medium c.hardware_addr own many c.of_medium is six;
  sends = λ id p outcome slots sockets frames notes new to emits.
      over_ethernet c.hardware_addr is (ToMulticast many (rw to group) emits);
}

-- a known neighbour
pub to_neighbor : (c : Context) (a hop : IpAddress) (own : EthernetAddress) (h : HardwareAddress) → c.hardware_addr ≡ hardware.Ethernet own →
    multicast_hardware_addr c.ip_addrs.items a ≡ None →
    ((slots : Slots) (sockets : SocketSet) → IsNextHop (host_in c slots sockets) a (Some hop)) →
    answer_of c.neighbor_cache hop c.moment ≡ Found h → IsReached c a h
to_neighbor c a hop own h is none next answer = record {
  of_medium = reached_of (host_of c no_sockets) h (record { own = c.own; neighbors = c.neighbors }) (ByNeighbor hop answer);
  sends = λ id p outcome slots sockets frames notes new to emits.
      over_ethernet c.hardware_addr is (ByHop hop (rw to none) (rw to (next slots sockets)) (Known h answer emits));
}

-- no next hop
pub no_hop : (c : Context) (a : IpAddress) (own : EthernetAddress) {out : List ℕ} → out ≡ [] → c.hardware_addr ≡ hardware.Ethernet own →
    multicast_hardware_addr c.ip_addrs.items a ≡ None →
    ((slots : Slots) (sockets : SocketSet) → IsNextHop (host_in c slots sockets) a None) → IsRefused NoRoute a out c c
no_hop c a own empty is none next id p to = nothing empty (λ slots sockets.
    over_ethernet c.hardware_addr is (NoHop (rw to none) (rw to (next slots sockets)) refl (unsent _)))

module _ (id : ℕ) (p : Packet) (c : Context) (a hop : IpAddress) (own : EthernetAddress) (slots : Slots) (sockets : SocketSet)
    (to : destination_of p ≡ a) (is : c.hardware_addr ≡ hardware.Ethernet own) (none : multicast_hardware_addr c.ip_addrs.items a ≡ None)
    (next : IsNextHop (host_in c slots sockets) a (Some hop)) where
  -- a neighbour that isn't known, during the silence
  pub silent : answer_of c.neighbor_cache hop c.moment ≡ RateLimited →
      SendsOver id c.hardware_addr p (Err NeighborPending) (host_in c slots sockets) [] [] (host_in c slots sockets)
  silent answer = over_ethernet c.hardware_addr is (ByHop hop (rw to none) (rw to next) (Silent answer refl (unsent _)))

  -- a neighbour that isn't known, and is asked for
  pub asked : {error : DispatchError} {frames : List (List ℕ)} {notes : List Note} {new : Host} →
      answer_of c.neighbor_cache hop c.moment ≡ NotFound → Discovers own hop (Err error) (host_in c slots sockets) frames notes new →
      SendsOver id c.hardware_addr p (Err error) (host_in c slots sockets) frames notes new
  asked answer discovers = over_ethernet c.hardware_addr is (ByHop hop (rw to none) (rw to next) (Unknown answer discovers))
