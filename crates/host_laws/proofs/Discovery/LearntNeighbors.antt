-- Which neighbours a frame tells of, and that no other is learnt from it.
use Rattle.std.proofs.Common.{◌≡◌, ◌≢◌, ◌⊎◌, ℕ, suc, ◌/◌, ◌%◌, ◌^◌, Bool, true, false, List, [], ◌∷◌, refl}
use Rattle.std.proofs.Common.{sym, ◌∙◌, ap, subst}
use Rattle.std.proofs.Common.{inl, inr, drop, Option, Some, None, arith}
use Rattle.std.specs.Prelude.{ℤ, pos, ◌+ℤ◌, ◌==◌, ◌||◌, ◌&&◌, not, nat_le, slice_get, slice_index, if◌then◌else◌}
use Rattle.std.proofs.lemmas.Bool.Decides.{Decides-eqb, nat_tests}
use Rattle.std.specs.FinMap as map
use Rattle.ip_address.specs.Cidr.{address_of, contains}
use Rattle.ip_address.specs.EthernetAddress as ethernet_address
use Rattle.ip_address.specs.Ip as ip_address
use Rattle.ip_address.specs.Ipv4 as ipv4_address
use Rattle.ip_address.specs.Ipv6 as ipv6_address
use Rattle.ip_address.specs.declared.cidr.IpCidr.{IpCidr}
use Rattle.ip_address.specs.declared.ethernet_address.EthernetAddress.{EthernetAddress}
use Rattle.ip_address.specs.declared.hardware.HardwareAddress.{HardwareAddress}
use Rattle.ip_address.specs.declared.hardware.HardwareAddress.TheVariants as hardware
use Rattle.ip_address.specs.declared.ip.IpAddress.{IpAddress}
use Rattle.ip_address.specs.declared.ip.IpAddress.TheVariants.{Ipv4, Ipv6}
use Rattle.ip_address.specs.declared.ipv4.Ipv4Address.{Ipv4Address}
use Rattle.ip_address.specs.declared.ipv6.Ipv6Address.{Ipv6Address}
use Rattle.ip_address.specs.declared.protocol.IpProtocol.{IpProtocol}
use Rattle.ip_address.specs.declared.protocol.IpProtocol.TheVariants as protocol
use Rattle.ip_wire.specs.declared.ethernet.EthernetProtocol.{EthernetProtocol}
use Rattle.ip_wire.specs.declared.ethernet.EthernetProtocol.TheVariants as ethertype
use Rattle.ip_wire.specs.declared.ip_packet.IpRepr.{IpRepr}
use Rattle.ip_wire.specs.declared.ip_packet.IpRepr.TheVariants as repr
use Rattle.ip_wire.specs.declared.ipv4_packet.Ipv4Repr.{Ipv4Repr}
use Rattle.ip_wire.specs.declared.ipv4_packet.Ipv4Fragment.{Ipv4Fragment}
use Rattle.ip_wire.specs.Arp.{arp_in}
use Rattle.ip_wire.specs.Ethernet.{header_in}
use Rattle.ip_wire.specs.IpPacket.{dst_addr, src_addr}
use Rattle.ip_wire.specs.Ipv4Packet.{ipv4_in}
use Rattle.ip_wire.specs.declared.ipv6_packet.Ipv6Repr.{Ipv6Repr}
use Rattle.ip_wire.specs.Ipv6Packet.{ipv6_in}
use Rattle.ip_wire.specs.HopByHop.{hop_by_hop_in}
use Rattle.control_wire.specs.Icmpv6.{icmpv6_in}
use Rattle.control_wire.specs.declared.icmpv6.Icmpv6Repr.{Icmpv6Repr}
use Rattle.control_wire.specs.declared.icmpv6.Icmpv6Repr.TheVariants as icmp
use Rattle.control_wire.specs.declared.ndisc.NdiscNeighborFlags.{NdiscNeighborFlags}
use Rattle.control_wire.specs.declared.ndisc.NdiscRepr.{NdiscRepr}
use Rattle.control_wire.specs.declared.ndisc.NdiscRepr.TheVariants.{NeighborAdvert, NeighborSolicit}
use Rattle.control_wire.specs.Igmp.{igmp_in}
use Rattle.control_wire.specs.declared.igmp.IgmpRepr.{IgmpRepr}
use Rattle.control_wire.specs.declared.igmp.IgmpRepr.TheVariants.{MembershipQuery, MembershipReport, LeaveGroup}
use Rattle.control_wire.specs.declared.mld.MldRepr.{MldRepr}
use Rattle.control_wire.specs.declared.mld.MldRepr.TheVariants.{Query, Report}
use Rattle.iface_tables.specs.declared.route.Route.{Route}
use Rattle.iface_tables.specs.Neighbor.{answer_of, is_found}
use Rattle.iface_tables.specs.Neighbor.{after_renewal, expiry_from}
use Rattle.iface_tables.specs.Route.{best, is_live, more_specific, prefix_len, router_of}
use Rattle.sockets.specs.Source.{is_same}
use Rattle.host_machine.specs.Context.Note.{Note}
use Rattle.host_machine.specs.Context.Host.{Host, has_ip_addr, in_same_network, is_assigned, is_one_assigned}
use Rattle.host_machine.specs.Context.Host.{is_routed_here, with_neighbors}
use Rattle.host_machine.specs.Context.Host.{without_expired}
use Rattle.host_machine.specs.Context.Addresses.{is_unicast}
use Rattle.host_machine.specs.Discovery.Arp.{ProcessesArp}
use Rattle.host_machine.specs.Discovery.Arp as arp
use Rattle.host_machine.specs.Receive.Ethernet.{ProcessesEthernet, ProcessesEthertype, ProcessesFrame}
use Rattle.host_machine.specs.Receive.Ethernet as ethernet
use Rattle.host_machine.specs.Icmp.Icmpv4.{ProcessesIcmpv4}
use Rattle.host_machine.specs.Icmp.Icmpv4 as icmpv4
use Rattle.host_machine.specs.Icmp.Icmpv6.{ProcessesIcmpv6, ProcessesMessage, IsMessage}
use Rattle.host_machine.specs.Icmp.Icmpv6 as icmpv6
use Rattle.host_machine.specs.Receive.Ipv4.{ProcessesDatagram, ProcessesIpv4, ProcessesPacket}
use Rattle.host_machine.specs.Receive.Ipv4 as ip
use Rattle.host_machine.specs.Receive.Ipv6.{ProcessesDatagramV6, ProcessesHopByHop, ProcessesIpv6}
use Rattle.host_machine.specs.Receive.Ipv6 as ipv6
use Rattle.host_machine.specs.Discovery.Ndisc.{Learns, ProcessesNdisc, ProcessesNdiscMessage, advertised_lladdr}
use Rattle.host_machine.specs.Discovery.Ndisc.{has_override, usable_lladdr}
use Rattle.host_machine.specs.Discovery.Ndisc as ndisc
use Rattle.host_machine.specs.Sockets.Raw as raw
use Rattle.host_machine.specs.Discovery.Renewal.{sender_renewed}
use Rattle.host_machine.specs.Receive.Reply.{Reply, IsDropped}
use Rattle.host_machine.specs.Sockets.Tcp.{ProcessesTcp}
use Rattle.host_machine.specs.Sockets.Tcp as tcp
use Rattle.host_machine.specs.Sockets.Udp.{ProcessesUdp}
use Rattle.host_machine.specs.Sockets.Udp as udp
use Rattle.host_machine.specs.Multicast.Igmp as igmp_rules
use Rattle.host_machine.specs.Multicast.Mld as mld_rules
use Rattle.host_laws.specs.Laws.Restraint.Foreign.{HasPrefixOf}
use Rattle.host_laws.specs.Laws.Restraint.Neighbors.{CameToBeKnown, Gives, HasMessage, IsAssigned, IsFrom, IsNear}
use Rattle.host_laws.specs.Laws.Restraint.Neighbors.{IsOneStation, IsOwn}
use Rattle.host_laws.specs.Laws.Restraint.Neighbors.{NeighborsComeFromFrames, TellsByArp, TellsByMessage, sender_in}
use Rattle.host_laws.specs.Laws.Restraint.Neighbors as law
use Rattle.host_laws.specs.Laws.Restraint.Readings.{CarriesV4, CarriesV6}
use Rattle.host_laws.proofs.Receive.ForeignFrames.{has_prefix}
use Rattle.host_laws.proofs.Discovery.NeighborOrigins.{Came, Come, IsHeard, New, Nobody, Renewed, Unheard, Was, come_so, come_then, filled_came}
use Rattle.host_laws.proofs.Discovery.NeighborOrigins.{renewed_came, still_known, told_so, unchanged}
use Rattle.host_laws.proofs.Receive.ReceivedFrames.{WasHandled, handled, renewal}
use Rattle.host_laws.proofs.Interface.SettledFields.{Settings, response_settled}

-- what tests say
pub and_both : (x y : Bool) → (x && y) ≡ true → (x ≡ true) × (y ≡ true)
and_both true true e = (refl, refl)
and_both true false e = absurd cc
and_both false y e = absurd cc

pub or_either : (x y : Bool) → (x || y) ≡ true → (x ≡ true) ⊎ (y ≡ true)
or_either true y e = inl refl
or_either false y e = inr e

even_of : (x : ℕ) → (x % 2 == 1) ≡ false → x % 2 ≡ 0
even_of x e = grind (arith, nat_tests)

pub one_station : (h : EthernetAddress) → ethernet_address.is_unicast h ≡ true → IsOneStation h
one_station h e = by (ethernet_address.is_broadcast h) (slice_index h.0 0 % 2 == 1) refl e where
  by : (b m : Bool) → (slice_index h.0 0 % 2 == 1) ≡ m → not (b || m) ≡ true → IsOneStation h
  by true m is q = absurd cc
  by false true is q = absurd cc
  by false false is q = even_of (slice_index h.0 0) is

same_address : (x a : IpAddress) → is_same x a ≡ true → x ≡ a
same_address (Ipv4 x) (Ipv4 a) e = ap (λ n. Ipv4 (record { bits = n })) ((Decides-eqb x.bits a.bits).0 e)
same_address (Ipv4 x) (Ipv6 a) e = absurd cc
same_address (Ipv6 x) (Ipv4 a) e = absurd cc
same_address (Ipv6 x) (Ipv6 a) e = ap (λ n. Ipv6 (record { bits = n })) ((Decides-eqb x.bits a.bits).0 e)

pub assigned_of : (own : List IpCidr) (a : IpAddress) → is_assigned own a ≡ true → IsAssigned own a
assigned_of [] a e = absurd cc
assigned_of (c ∷ own) a e = by (or_either (is_same (address_of c) a) (is_assigned own a) e) (assigned_of own a) where
  by : ((is_same (address_of c) a ≡ true) ⊎ (is_assigned own a ≡ true)) → (is_assigned own a ≡ true → IsAssigned own a) → IsAssigned (c ∷ own) a
  by (inl here) more = (0, c, refl, same_address (address_of c) a here)
  by (inr there) more = let x = more there in (suc x.0, x.1, x.2, x.3)

near_of : (own : List IpCidr) (a : IpAddress) → in_same_network own a ≡ true → IsNear own a
near_of [] a e = absurd cc
near_of (c ∷ own) a e = by (or_either (contains c a) (in_same_network own a) e) (near_of own a) where
  by : ((contains c a ≡ true) ⊎ (in_same_network own a ≡ true)) → (in_same_network own a ≡ true → IsNear own a) → IsNear (c ∷ own) a
  by (inl here) more = (0, c, refl, has_prefix c a here)
  by (inr there) more = let x = more there in (suc x.0, x.1, x.2, x.3)

-- a route of a list that leads an address to the host
record LeadsHere (own : List IpCidr) (a : IpAddress) (rs : List Route) : Type 0 where
  place : ℕ
  route : Route
  here : slice_get rs place ≡ Some route
  prefix : HasPrefixOf route.cidr a
  gateway : IsAssigned own route.via_router

further : {own : List IpCidr} {a : IpAddress} {r : Route} {rs : List Route} → LeadsHere own a rs → LeadsHere own a (r ∷ rs)
further x = record { place = suc x.place; route = x.route; here = x.here; prefix = x.prefix; gateway = x.gateway }

leads_here : (own : List IpCidr) (a : IpAddress) (t : ℤ) (rs : List Route) →
    is_one_assigned own (router_of (best rs a t)) ≡ true → LeadsHere own a rs
leads_here own a t [] e = absurd cc
leads_here own a t (r ∷ rs) e = by (leads_here own a t rs) (contains r.cidr a) (is_live r t) refl e where
  chosen : contains r.cidr a ≡ true → (o : Option Route) → (is_one_assigned own (router_of o) ≡ true → LeadsHere own a rs) →
      is_one_assigned own (router_of (Some (more_specific r o))) ≡ true → LeadsHere own a (r ∷ rs)
  chosen c None rest q = record { place = 0; route = r; here = refl; prefix = has_prefix r.cidr a c; gateway = assigned_of own r.via_router q }
  chosen c (Some after) rest q = of (nat_le (prefix_len r) (prefix_len after)) q where
    of : (b : Bool) → is_assigned own (if b then after else r).via_router ≡ true → LeadsHere own a (r ∷ rs)
    of true q = further (rest q)
    of false q = record { place = 0; route = r; here = refl; prefix = has_prefix r.cidr a c; gateway = assigned_of own r.via_router q }

  by : (is_one_assigned own (router_of (best rs a t)) ≡ true → LeadsHere own a rs) → (c l : Bool) → contains r.cidr a ≡ c →
      is_one_assigned own (router_of (if c && l then Some (more_specific r (best rs a t)) else best rs a t)) ≡ true → LeadsHere own a (r ∷ rs)
  by rest true true c q = chosen c (best rs a t) rest q
  by rest true false c q = further (rest q)
  by rest false l c q = further (rest q)

pub own_of : (H : Host) (a : IpAddress) → has_ip_addr H a ≡ true → IsOwn H a
own_of H a e = by (or_either (is_assigned H.ip_addrs a) (H.any_ip && is_routed_here H a) e) where
  by : ((is_assigned H.ip_addrs a ≡ true) ⊎ ((H.any_ip && is_routed_here H a) ≡ true)) → IsOwn H a
  by (inl given) = law.Assigned (assigned_of H.ip_addrs a given)
  by (inr routed) =
      let both = and_both H.any_ip (is_routed_here H a) routed in
      let there = and_both (ip_address.is_unicast a) (is_one_assigned H.ip_addrs (router_of (best H.routes a H.moment))) both.1 in
      let x = leads_here H.ip_addrs a H.moment H.routes there.1 in
      law.Routed x.place x.route both.0 x.here x.prefix x.gateway

-- an IPv4 address of one host
pub record IsOneHost (a : Ipv4Address) : Type 0 where
  pub not_nobody : a.bits ≢ 0
  pub not_all : a.bits ≢ 0xffff_ffff
  pub no_group : a.bits / 2 ^ 28 ≢ 14

pub one_host : (a : Ipv4Address) → ipv4_address.is_unicast a ≡ true → IsOneHost a
one_host a e = by (a.bits == 0xffff_ffff) (a.bits / 2 ^ 28 == 14) (a.bits == 0) refl refl refl e where
  by : (b m u : Bool) → (a.bits == 0xffff_ffff) ≡ b → (a.bits / 2 ^ 28 == 14) ≡ m → (a.bits == 0) ≡ u → not (b || m || u) ≡ true → IsOneHost a
  by true m u x y z q = absurd cc
  by false true u x y z q = absurd cc
  by false false true x y z q = absurd cc
  by false false false x y z q = record {
    not_nobody = λ is. let bad : (a.bits == 0) ≡ true = (Decides-eqb a.bits 0).1 is in absurd cc;
    not_all = λ is. let bad : (a.bits == 0xffff_ffff) ≡ true = (Decides-eqb a.bits 0xffff_ffff).1 is in absurd cc;
    no_group = λ is. let bad : (a.bits / 2 ^ 28 == 14) ≡ true = (Decides-eqb (a.bits / 2 ^ 28) 14).1 is in absurd cc;
  }

-- and an IPv6 address
pub record IsOneHostV6 (a : Ipv6Address) : Type 0 where
  pub not_nobody : a.bits ≢ 0
  pub no_group : a.bits / 2 ^ 120 ≢ 0xff

pub one_host_v6 : (a : Ipv6Address) → ipv6_address.is_unicast a ≡ true → IsOneHostV6 a
one_host_v6 a e = by (a.bits / 2 ^ 120 == 0xff) (a.bits == 0) refl refl e where
  by : (m u : Bool) → (a.bits / 2 ^ 120 == 0xff) ≡ m → (a.bits == 0) ≡ u → not (m || u) ≡ true → IsOneHostV6 a
  by true u y z q = absurd cc
  by false true y z q = absurd cc
  by false false y z q = record {
    not_nobody = λ is. let bad : (a.bits == 0) ≡ true = (Decides-eqb a.bits 0).1 is in absurd cc;
    no_group = λ is. let bad : (a.bits / 2 ^ 120 == 0xff) ≡ true = (Decides-eqb (a.bits / 2 ^ 120) 0xff).1 is in absurd cc;
  }

-- ARP
arp_came : {own : EthernetAddress} {H new : Host} {frame : List ℕ} {reply : Option Reply} {notes : List Note} →
    (header_in frame).ethertype ≡ ethertype.Arp → ProcessesArp own H (drop 14 frame) reply notes new → Come (TellsByArp H frame) Unheard H new
arp_came type (arp.Malformed m d) = unchanged d.unchanged
arp_came type (arp.NotForUs a l d) = unchanged d.unchanged
arp_came {own} {H} {new} {frame} type (arp.Learnt a us learns r n) =
    let p = arp_in (drop 14 frame) in
    let own = has_ip_addr H (Ipv4 p.target_protocol_addr) in
    let many = ipv4_address.is_unicast p.source_protocol_addr in
    let station = ethernet_address.is_unicast p.source_hardware_addr in
    let three = and_both (own && many && station) (in_same_network H.ip_addrs (Ipv4 p.source_protocol_addr)) us in
    let two = and_both (own && many) station three.0 in
    let one = and_both own many two.0 in
    let host = one_host p.source_protocol_addr one.1 in
    let came = filled_came {old = H} {new = with_neighbors H learns.neighbors} refl learns.filled in
    let here = subst (λ K. Come (λ b g. (b ≡ Ipv4 p.source_protocol_addr) × (g ≡ p.source_hardware_addr)) Unheard H K) (sym learns.same) came in
    told_so (λ b g t. record {
      type = type;
      is_packet = a;
      address_is = t.0;
      hardware_is = t.1;
      target = own_of H (Ipv4 p.target_protocol_addr) one.0;
      near = subst (IsNear H.ip_addrs) (sym t.0) (near_of H.ip_addrs (Ipv4 p.source_protocol_addr) three.1);
      not_nobody = host.not_nobody;
      not_all = host.not_all;
      no_group = host.no_group;
      one = subst IsOneStation (sym t.1) (one_station p.source_hardware_addr two.1);
    }) here

-- what a message of neighbour discovery tells
record ToldByMessage (H : Host) (r : Ipv6Repr) (m : Icmpv6Repr) (a : IpAddress) (h : EthernetAddress) : Type 0 where
  own : EthernetAddress
  on_ethernet : H.hardware_addr ≡ hardware.Ethernet own
  hop_limit : r.hop_limit ≡ 255
  address_is : a ≡ Ipv6 r.src_addr
  message : NdiscRepr
  is : m ≡ icmp.Ndisc message
  gives : Gives message h
  one : IsOneStation h

-- the address that may be learnt
record IsUsable (o : Option EthernetAddress) (h : EthernetAddress) : Type 0 where
  is : o ≡ Some h
  one : IsOneStation h

usable_is : (o : Option EthernetAddress) (target : Ipv6Address) (h : EthernetAddress) → usable_lladdr o target ≡ Some h → IsUsable o h
usable_is None target h e = absurd cc
usable_is (Some g) target h e = by (ethernet_address.is_unicast g) (ipv6_address.is_unicast target) refl e where
  by : (b c : Bool) → ethernet_address.is_unicast g ≡ b → (if b && c then Some g else None) ≡ Some h → IsUsable (Some g) h
  by true true t q = let same : g ≡ h = cc in record { is = ap Some same; one = subst IsOneStation same (one_station g t) }
  by true false t q = absurd cc
  by false c t q = absurd cc

advertised_is : (H : Host) (r : Ipv6Repr) (flags : NdiscNeighborFlags) (target : Ipv6Address) (o : Option EthernetAddress) (h : EthernetAddress) →
    advertised_lladdr H r flags target o ≡ Some h → IsUsable o h
advertised_is H r flags target o h e = by (has_override flags || not (is_found (answer_of H.neighbors (Ipv6 r.src_addr) H.moment))) e where
  by : (b : Bool) → (if b then usable_lladdr o target else None) ≡ Some h → IsUsable o h
  by true q = usable_is o target h q
  by false q = absurd cc

learns_came : (H new : Host) (a : Ipv6Address) (o : Option EthernetAddress) → Learns o a H new → Come (λ b g. (b ≡ Ipv6 a) × (o ≡ Some g)) Unheard H new
learns_came H new a None e = unchanged e
learns_came H new a (Some h) learns =
    let came = filled_came {old = H} {new = with_neighbors H learns.neighbors} refl learns.filled in
    let here = subst (λ K. Come (λ b g. (b ≡ Ipv6 a) × (g ≡ h)) Unheard H K) (sym learns.same) came in
    told_so (λ b g t. (t.0, ap Some (sym t.1))) here

heard_came : {own : EthernetAddress} {r : Ipv6Repr} {message : NdiscRepr} {H new : Host} {reply : Option Reply} {notes : List Note} →
    r.hop_limit ≡ 255 → H.hardware_addr ≡ hardware.Ethernet own → ProcessesNdiscMessage own r H reply notes new message →
    Come (ToldByMessage H r (icmp.Ndisc message)) Unheard H new
heard_came {own} {r} {message} {H} {new} near mine (ndisc.Advertised flags target lladdr learns e n) =
    told_so (λ a h t.
    let u = advertised_is H r flags target lladdr h t.1 in record {
      own = own;
      on_ethernet = mine;
      hop_limit = near;
      address_is = t.0;
      message = NeighborAdvert flags target lladdr;
      is = refl;
      gives = u.is;
      one = u.one;
    }) (learns_came H new r.src_addr (advertised_lladdr H r flags target lladdr) learns)
heard_came near mine (ndisc.NoUnicast target lladdr nobody d) = unchanged d.unchanged
heard_came {own} {r} {message} {H} {new} near mine (ndisc.Solicited target lladdr specified learns e n) =
    told_so (λ a h t.
    let u = usable_is lladdr target h t.1 in record {
      own = own;
      on_ethernet = mine;
      hop_limit = near;
      address_is = t.0;
      message = NeighborSolicit target lladdr;
      is = refl;
      gives = u.is;
      one = u.one;
    }) (learns_came H new r.src_addr (usable_lladdr lladdr target) learns)

ndisc_came : {r : Ipv6Repr} {message : NdiscRepr} {H new : Host} {reply : Option Reply} {notes : List Note} →
    ProcessesNdisc r message H reply notes new → Come (ToldByMessage H r (icmp.Ndisc message)) Unheard H new
ndisc_came (ndisc.FromAfar far d) = unchanged d.unchanged
ndisc_came (ndisc.WithoutAddresses without d) = unchanged d.unchanged
ndisc_came {r = r} (ndisc.FromNeighbor own near mine h) = heard_came ((Decides-eqb r.hop_limit 255).0 near) mine h

-- nothing else that is received tells of a neighbour
query_came : {Told : IpAddress → EthernetAddress → Type 0} (H : Host) (r : Ipv6Repr) (code : ℕ) (group : Ipv6Address) →
    Come Told Unheard H (mld_rules.host_after_mld_query H r code group)
query_came {Told} H r code group = by (mld_rules.is_near r) where
  by : (b : Bool) → Come Told Unheard H (if b then record H {
    mld_report = mld_rules.mld_report_for H r.dst_addr (H.moment +ℤ pos (mld_rules.delay code H.random)) group;
    random = mld_rules.random_after_draw code H.random;
  } else H)
  by true = still_known refl refl
  by false = unchanged refl

mld_came : {Told : IpAddress → EthernetAddress → Type 0} (r : Ipv6Repr) (m : MldRepr) (H : Host) (reply : Option Reply) (notes : List Note)
    (new : Host) → mld_rules.ProcessesMld r m H reply notes new → Come Told Unheard H new
mld_came {Told} r (Query code group) H reply notes new t = subst (Come Told Unheard H) (sym t.2) (query_came H r code group)
mld_came r (Report count) H reply notes new t = unchanged t.unchanged

message_came : (r : Ipv6Repr) (m : Icmpv6Repr) (octets : List ℕ) (H : Host) (reply : Option Reply) (notes : List Note) (new : Host) →
    ProcessesMessage r m octets H reply notes new → Come (ToldByMessage H r m) Unheard H new
message_came r (icmp.EchoRequest ident seq_no) octets H reply notes new t = unchanged t.2
message_came r (icmp.Ndisc message) octets H reply notes new t = ndisc_came t
message_came r (icmp.Router message) octets H reply notes new t =
    still_known (ap (λ (K : Host). K.moment) t.2) (ap (λ (K : Host). K.neighbors.known) t.2)
message_came r (icmp.Mld message) octets H reply notes new t = mld_came r message H reply notes new t
message_came r (icmp.EchoReply ident seq_no) octets H reply notes new t = unchanged t.unchanged
message_came r (icmp.DstUnreachable reason header) octets H reply notes new t = unchanged t.unchanged
message_came r (icmp.PktTooBig mtu header) octets H reply notes new t = unchanged t.unchanged
message_came r (icmp.TimeExceeded code header) octets H reply notes new t = unchanged t.unchanged
message_came r (icmp.ParamProblem reason pointer header) octets H reply notes new t = unchanged t.unchanged

-- the octets of a message tell
record ToldByOctets (H : Host) (r : Ipv6Repr) (octets : List ℕ) (a : IpAddress) (h : EthernetAddress) : Type 0 where
  is_message : IsMessage H r octets
  told : ToldByMessage H r (icmpv6_in octets).0 a h

-- the host after it may be another one with the same settings
same_told : {H K : Host} {r : Ipv6Repr} {m : Icmpv6Repr} {a : IpAddress} {h : EthernetAddress} →
    H.hardware_addr ≡ K.hardware_addr → ToldByMessage H r m a h → ToldByMessage K r m a h
same_told e t = record {
  own = t.own;
  on_ethernet = sym e ∙ t.on_ethernet;
  hop_limit = t.hop_limit;
  address_is = t.address_is;
  message = t.message;
  is = t.is;
  gives = t.gives;
  one = t.one;
}

icmpv6_came : {r : Ipv6Repr} {H new : Host} {octets : List ℕ} {reply : Option Reply} {notes : List Note} →
    ProcessesIcmpv6 r H octets reply notes new → Come (ToldByOctets H r octets) Unheard H new
icmpv6_came (icmpv6.Malformed m d) = unchanged d.unchanged
icmpv6_came {r} {H} {new} {octets} {reply} {notes} (icmpv6.Taken i t) =
    let K = icmpv6.host_after_delivery r octets H in
    let came : Come (ToldByMessage K r (icmpv6_in octets).0) Unheard K new =
    message_came r (icmpv6_in octets).0 (icmpv6_in octets).1 K reply notes new t in
    come_then (still_known {old = H} {new = K} refl refl)
    (told_so (λ a h x. record { is_message = i; told = same_told {H = K} {K = H} refl x }) came)

udp_came : {Told : IpAddress → EthernetAddress → Type 0} {b : Bool} {r : IpRepr} {H new : Host} {octets : List ℕ} {reply : Option Reply}
    {notes : List Note} → ProcessesUdp b r H octets reply notes new → Come Told Unheard H new
udp_came (udp.Malformed m d) = unchanged d.unchanged
udp_came (udp.Delivered places u f e n s) = still_known (ap (λ (K : Host). K.moment) s) (ap (λ (K : Host). K.neighbors.known) s)
udp_came (udp.NotAccepted u none e n s) = unchanged s

tcp_came : {Told : IpAddress → EthernetAddress → Type 0} {b : Bool} {r : IpRepr} {H new : Host} {octets : List ℕ} {reply : Option Reply}
    {notes : List Note} → ProcessesTcp b r H octets reply notes new → Come Told Unheard H new
tcp_came (tcp.BetweenUnspecified b d) = unchanged d.unchanged
tcp_came (tcp.Malformed b m d) = unchanged d.unchanged
tcp_came (tcp.Delivered index place b s f e n same) = still_known (ap (λ (K : Host). K.moment) same) (ap (λ (K : Host). K.neighbors.known) same)
tcp_came (tcp.NotAccepted b s none e n same) = unchanged same

protocol_v6_came : (p : IpProtocol) (b : Bool) (r : Ipv6Repr) (H : Host) (octets : List ℕ) (reply : Option Reply) (notes : List Note) (new : Host) →
    ipv6.ProcessesProtocol p b r H octets reply notes new → Come (λ a h. (p ≡ protocol.Icmpv6) × ToldByOctets H r octets a h) Unheard H new
protocol_v6_came protocol.Icmpv6 b r H octets reply notes new t = told_so (λ a h x. (refl, x)) (icmpv6_came t)
protocol_v6_came protocol.Udp b r H octets reply notes new t = udp_came t
protocol_v6_came protocol.Tcp b r H octets reply notes new t = tcp_came t
protocol_v6_came protocol.Icmp b r H octets reply notes new t = unchanged t.unchanged
protocol_v6_came protocol.Igmp b r H octets reply notes new t = unchanged t.unchanged
protocol_v6_came protocol.HopByHop b r H octets reply notes new t = unchanged t.unchanged
protocol_v6_came (protocol.Unknown n) b r H octets reply notes new t = unchanged t.unchanged

-- before its payload is looked at
met_came : {Told : IpAddress → EthernetAddress → Type 0} (source : HardwareAddress) (r : IpRepr) (payload : List ℕ) (H : Host) →
    Come Told (IsHeard source r) H (sender_renewed source r (raw.host_after_raw_delivery r payload H))
met_came {Told} source r payload H =
    come_then (still_known {old = H} {new = raw.host_after_raw_delivery r payload H} refl refl)
    (by (is_unicast H.ip_addrs (dst_addr r))) where
      by : (b : Bool) → Come Told (IsHeard source r) (raw.host_after_raw_delivery r payload H)
          (if b then with_neighbors (raw.host_after_raw_delivery r payload H)
          (after_renewal H.neighbors (src_addr r) source (expiry_from H.moment)) else raw.host_after_raw_delivery r payload H)
      by true = renewed_came source r (raw.host_after_raw_delivery r payload H)
      by false = unchanged refl

-- what renewal leaves
record Same (H K : Host) : Type 0 where
  capabilities : K.capabilities ≡ H.capabilities
  hardware_addr : K.hardware_addr ≡ H.hardware_addr

met_same : (source : HardwareAddress) (r : IpRepr) (payload : List ℕ) (H : Host) →
    Same H (sender_renewed source r (raw.host_after_raw_delivery r payload H))
met_same source r payload H =
    let i = renewal source r (raw.host_after_raw_delivery r payload H) in
    record { capabilities = ap (λ (K : Host). K.capabilities) i.is; hardware_addr = ap (λ (K : Host). K.hardware_addr) i.is }

same_octets : {H K : Host} {r : Ipv6Repr} {octets : List ℕ} {a : IpAddress} {h : EthernetAddress} →
    Same H K → ToldByOctets K r octets a h → ToldByOctets H r octets a h
same_octets {H} {K} {r} {octets} s t = record {
  is_message = rw (sym s.capabilities) t.is_message;
  told = same_told s.hardware_addr t.told;
}

datagram_v6_came : {source : HardwareAddress} {p : IpProtocol} {H new : Host} {payload : List ℕ} {reply : Option Reply} {notes : List Note}
    (r : Ipv6Repr) → ProcessesDatagramV6 source r p H payload reply notes new →
    Come (λ a h. (p ≡ protocol.Icmpv6) × ToldByOctets H r payload a h) (IsHeard source (repr.Ipv6 r)) H new
datagram_v6_came r (ipv6.NotForUs n d) = unchanged d.unchanged
datagram_v6_came {source} {p} {H} {new} {payload} {reply} {notes} r (ipv6.Accepted f t) =
    let K = sender_renewed source (repr.Ipv6 r) (raw.host_after_raw_delivery (repr.Ipv6 r) payload H) in
    come_then (met_came source (repr.Ipv6 r) payload H)
    (come_so (λ a h x. (x.0, same_octets (met_same source (repr.Ipv6 r) payload H) x.1)) (λ a h x. absurd x)
    (protocol_v6_came p _ r K payload reply notes new t))

-- and those of a packet
record ToldByPacket (H : Host) (packet : List ℕ) (a : IpAddress) (h : EthernetAddress) : Type 0 where
  octets : List ℕ
  has_message : HasMessage packet octets
  told : ToldByOctets H (ipv6_in packet).0 octets a h
  host : IsOneHostV6 (ipv6_in packet).0.src_addr

module _ {source : HardwareAddress} {H new : Host} {packet : List ℕ} {reply : Option Reply} {notes : List Note} where
  options_came : IsOneHostV6 (ipv6_in packet).0.src_addr →
      ProcessesHopByHop source (ipv6_in packet).0 H (ipv6_in packet).1 reply notes new → Come (ToldByPacket H packet) (IsHeard source (repr.Ipv6 (ipv6_in packet).0)) H new
  options_came one (ipv6.MalformedOptions m d) = unchanged d.unchanged
  options_came one (ipv6.Skipped o s t) = told_so (λ a h x.
      record { octets = (hop_by_hop_in (ipv6_in packet).1).1; has_message = law.AfterOptions x.0 refl; told = x.1; host = one })
      (datagram_v6_came (ipv6_in packet).0 t)
  options_came one (ipv6.Discarded failure o s other e n same) = unchanged same

  packet_v6_came : ipv6.ProcessesPacket source (ipv6_in packet).0 H (ipv6_in packet).1 reply notes new → Come (ToldByPacket H packet) (IsHeard source (repr.Ipv6 (ipv6_in packet).0)) H new
  packet_v6_came (ipv6.FromNoHost s d) = unchanged d.unchanged
  packet_v6_came (ipv6.WithOptions s z t) = options_came (one_host_v6 (ipv6_in packet).0.src_addr s) t
  packet_v6_came (ipv6.Bare s z t) = told_so (λ a h x.
      record { octets = (ipv6_in packet).1; has_message = law.AfterHeader x.0 refl; told = x.1; host = one_host_v6 (ipv6_in packet).0.src_addr s })
      (datagram_v6_came (ipv6_in packet).0 t)

  ipv6_came : ProcessesIpv6 source H packet reply notes new → Come (ToldByPacket H packet) (IsHeard source (repr.Ipv6 (ipv6_in packet).0)) H new
  ipv6_came (ipv6.Malformed m d) = unchanged d.unchanged
  ipv6_came (ipv6.Read i t) = packet_v6_came t

-- IPv4 tells of nobody
igmp_came : (H : Host) (dst : Ipv4Address) (m : IgmpRepr) → Come Nobody Unheard H (igmp_rules.host_after_igmp H dst m)
igmp_came H dst (MembershipQuery code group) = still_known refl refl
igmp_came H dst (MembershipReport group version) = unchanged refl
igmp_came H dst (LeaveGroup group) = unchanged refl

igmp_taken : {r : Ipv4Repr} {H new : Host} {octets : List ℕ} {reply : Option Reply} {notes : List Note} →
    igmp_rules.ProcessesIgmp r H octets reply notes new → Come Nobody Unheard H new
igmp_taken (igmp_rules.Malformed m d) = unchanged d.unchanged
igmp_taken {r} {H} {new} {octets} (igmp_rules.Taken i e n same) = subst (Come Nobody Unheard H) (sym same) (igmp_came H r.dst_addr (igmp_in octets))

icmpv4_came : {r : Ipv4Repr} {H new : Host} {octets : List ℕ} {reply : Option Reply} {notes : List Note} →
    ProcessesIcmpv4 r H octets reply notes new → Come Nobody Unheard H new
icmpv4_came (icmpv4.Malformed m d) = unchanged d.unchanged
icmpv4_came (icmpv4.Taken i e n s) = still_known (ap (λ (K : Host). K.moment) s) (ap (λ (K : Host). K.neighbors.known) s)

protocol_came : (p : IpProtocol) (b : Bool) (r : Ipv4Repr) (H : Host) (octets : List ℕ) (reply : Option Reply) (notes : List Note) (new : Host) →
    ip.ProcessesProtocol p b r H octets reply notes new → Come Nobody Unheard H new
protocol_came protocol.Icmp b r H octets reply notes new t = icmpv4_came t
protocol_came protocol.Udp b r H octets reply notes new t = udp_came t
protocol_came protocol.Tcp b r H octets reply notes new t = tcp_came t
protocol_came protocol.Igmp b r H octets reply notes new t = igmp_taken t
protocol_came protocol.HopByHop b r H octets reply notes new t = unchanged t.unchanged
protocol_came protocol.Icmpv6 b r H octets reply notes new t = unchanged t.unchanged
protocol_came (protocol.Unknown n) b r H octets reply notes new t = unchanged t.unchanged

datagram_came : {source : HardwareAddress} {H new : Host} {payload : List ℕ} {reply : Option Reply} {notes : List Note} (r : Ipv4Repr) →
    ProcessesDatagram source r H payload reply notes new → Come Nobody (IsHeard source (repr.Ipv4 r)) H new
datagram_came r (ip.NotForUs n d) = still_known (ap (λ (K : Host). K.moment) d.unchanged) (ap (λ (K : Host). K.neighbors.known) d.unchanged)
datagram_came {source} {H} {new} {payload} {reply} {notes} r (ip.Accepted f t) =
    come_then (met_came source (repr.Ipv4 r) payload H)
    (come_so (λ a h x. x) (λ a h x. absurd x) (protocol_came r.next_header _ r _ payload reply notes new t))

packet_came : {source : HardwareAddress} {H new : Host} {payload : List ℕ} {reply : Option Reply} {notes : List Note}
    (r : Ipv4Repr) (f : Ipv4Fragment) → ProcessesPacket source r f H payload reply notes new → Come Nobody (IsHeard source (repr.Ipv4 r)) H new
packet_came r f (ip.FromNoHost s d) = unchanged d.unchanged
packet_came r f (ip.Part s p t e) = still_known (ap (λ (K : Host). K.moment) t.changed) (ap (λ (K : Host). K.neighbors.known) t.changed)
packet_came {H = H} r f (ip.Completed octets mid first rest s p t w e) =
    come_then {old = H} {mid = mid} (still_known (ap (λ (K : Host). K.moment) t.changed) (ap (λ (K : Host). K.neighbors.known) t.changed))
    (come_so (λ a h x. x) (λ a h x. x) (datagram_came (ip.datagram_header r octets) w))
packet_came r f (ip.Whole s w t) = datagram_came r t

ipv4_came : {source : HardwareAddress} {H new : Host} {octets : List ℕ} {reply : Option Reply} {notes : List Note} →
    ProcessesIpv4 source H octets reply notes new → Come Nobody (IsHeard source (repr.Ipv4 (ipv4_in octets).0)) H new
ipv4_came (ip.Malformed m d) = unchanged d.unchanged
ipv4_came (ip.Read i t) = packet_came _ _ t

-- and a frame
record ToldByFrame (H : Host) (frame : List ℕ) (a : IpAddress) (h : EthernetAddress) : Type 0 where
  own : EthernetAddress
  on_ethernet : H.hardware_addr ≡ hardware.Ethernet own
  told : TellsByArp H frame a h ⊎ TellsByMessage H frame a h

-- and who is heard in it
heard_v4 : (H : Host) (frame packet : List ℕ) (source : HardwareAddress) (a : IpAddress) (h : HardwareAddress) →
    CarriesV4 H.hardware_addr frame packet → source ≡ sender_in H.hardware_addr frame → IsHeard source (repr.Ipv4 (ipv4_in packet).0) a h →
    IsFrom H frame a h
heard_v4 H frame packet source a h carried from x = law.OverIpv4 packet carried x.0 (x.1 ∙ from)

heard_v6 : (H : Host) (frame packet : List ℕ) (source : HardwareAddress) (a : IpAddress) (h : HardwareAddress) →
    CarriesV6 H.hardware_addr frame packet → source ≡ sender_in H.hardware_addr frame → IsHeard source (repr.Ipv6 (ipv6_in packet).0) a h →
    IsFrom H frame a h
heard_v6 H frame packet source a h carried from x = law.OverIpv6 packet carried x.0 (x.1 ∙ from)

by_message : {H : Host} {frame packet : List ℕ} {a : IpAddress} {h : EthernetAddress} → CarriesV6 H.hardware_addr frame packet →
    ToldByPacket H packet a h → ToldByFrame H frame a h
by_message {H} {frame} {packet} carried p = let x = p.told.told in record {
  own = x.own;
  on_ethernet = x.on_ethernet;
  told = inr (record {
    packet = packet;
    octets = p.octets;
    message = x.message;
    carried = carried;
    hop_limit = x.hop_limit;
    has_message = p.has_message;
    address_is = x.address_is;
    is_message = p.told.is_message;
    values = x.is;
    hardware_is = x.gives;
    not_nobody = p.host.not_nobody;
    no_group = p.host.no_group;
    one = x.one;
  });
}

payload_came : (own source : EthernetAddress) (H : Host) (type : EthernetProtocol) (frame : List ℕ) (reply : Option Reply) (notes : List Note)
    (new : Host) → H.hardware_addr ≡ hardware.Ethernet own → (header_in frame).ethertype ≡ type → source ≡ (header_in frame).src_addr →
    ProcessesEthertype own source H type (drop 14 frame) reply notes new → Come (ToldByFrame H frame) (IsFrom H frame) H new
payload_came own source H ethertype.Arp frame reply notes new mine type from t =
    come_so (λ a h x. record { own = own; on_ethernet = mine; told = inl x }) (λ a h x. absurd x) (arp_came type t)
payload_came own source H ethertype.Ipv4 frame reply notes new mine type from t =
    let carried : CarriesV4 H.hardware_addr frame (drop 14 frame) = rw mine (type, refl) in
    let sent : hardware.Ethernet source ≡ sender_in H.hardware_addr frame = rw mine (ap hardware.Ethernet from) in
    come_so (λ a h x. absurd x) (λ a h x. heard_v4 H frame (drop 14 frame) (hardware.Ethernet source) a h carried sent x) (ipv4_came t)
payload_came own source H ethertype.Ipv6 frame reply notes new mine type from t =
    let carried : CarriesV6 H.hardware_addr frame (drop 14 frame) = rw mine (type, refl) in
    let sent : hardware.Ethernet source ≡ sender_in H.hardware_addr frame = rw mine (ap hardware.Ethernet from) in
    come_so (λ a h x. by_message carried x) (λ a h x. heard_v6 H frame (drop 14 frame) (hardware.Ethernet source) a h carried sent x) (ipv6_came t)
payload_came own source H (ethertype.Unknown n) frame reply notes new mine type from t = unchanged t.unchanged

ethernet_came : {own : EthernetAddress} {H new : Host} {frame : List ℕ} {reply : Option Reply} {notes : List Note} →
    H.hardware_addr ≡ hardware.Ethernet own → ProcessesEthernet own H frame reply notes new → Come (ToldByFrame H frame) (IsFrom H frame) H new
ethernet_came mine (ethernet.Malformed m d) = unchanged d.unchanged
ethernet_came mine (ethernet.NotForUs l f d) = unchanged d.unchanged
ethernet_came {own} {H} {new} {frame} {reply} {notes} mine (ethernet.Accepted l f t) =
    payload_came own (header_in frame).src_addr H (header_in frame).ethertype frame reply notes new mine refl refl t

frame_came : (h : HardwareAddress) (H : Host) (frame : List ℕ) (reply : Option Reply) (notes : List Note) (new : Host) →
    H.hardware_addr ≡ h → ProcessesFrame h H frame reply notes new → Come (ToldByFrame H frame) (IsFrom H frame) H new
frame_came (hardware.Ethernet own) H frame reply notes new mine t = ethernet_came mine t
frame_came hardware.Ip H frame reply notes new mine (ethernet.Ipv4 v t) =
    let carried : CarriesV4 H.hardware_addr frame frame = rw mine (v, refl) in
    let sent : hardware.Ip ≡ sender_in H.hardware_addr frame = rw mine refl in
    come_so (λ a h x. absurd x) (λ a h x. heard_v4 H frame frame hardware.Ip a h carried sent x) (ipv4_came t)
frame_came hardware.Ip H frame reply notes new mine (ethernet.Ipv6 v t) =
    let carried : CarriesV6 H.hardware_addr frame frame = rw mine (v, refl) in
    let sent : hardware.Ip ≡ sender_in H.hardware_addr frame = rw mine refl in
    come_so (λ a h x. by_message carried x) (λ a h x. heard_v6 H frame frame hardware.Ip a h carried sent x) (ipv6_came t)
frame_came hardware.Ip H frame reply notes new mine (ethernet.OtherVersion v w d) = unchanged d.unchanged

-- slots that expire tell of nobody
told_before : {old : Host} {frame : List ℕ} {a : IpAddress} {h : EthernetAddress} (t : ℤ) →
    TellsByArp (without_expired old t) frame a h ⊎ TellsByMessage (without_expired old t) frame a h →
    TellsByArp old frame a h ⊎ TellsByMessage old frame a h
told_before t (inl x) = inl (record {
  type = x.type;
  is_packet = x.is_packet;
  address_is = x.address_is;
  hardware_is = x.hardware_is;
  target = own_before x.target;
  near = x.near;
  not_nobody = x.not_nobody;
  not_all = x.not_all;
  no_group = x.no_group;
  one = x.one;
}) where
  own_before : {old : Host} {a : IpAddress} → IsOwn (without_expired old t) a → IsOwn old a
  own_before (law.Assigned i) = law.Assigned i
  own_before (law.Routed i r on here prefix gateway) = law.Routed i r on here prefix gateway
told_before t (inr x) = inr (record {
  packet = x.packet;
  octets = x.octets;
  message = x.message;
  carried = x.carried;
  hop_limit = x.hop_limit;
  has_message = x.has_message;
  address_is = x.address_is;
  is_message = x.is_message;
  values = x.values;
  hardware_is = x.hardware_is;
  not_nobody = x.not_nobody;
  no_group = x.no_group;
  one = x.one;
})

pub neighbors_came : NeighborsComeFromFrames
neighbors_came t frame old new told notes w a n is =
    let h = handled w in
    let same = response_settled h.reply h.taken h.frames h.more new h.responds in
    let there : map.get h.taken.neighbors.known a ≡ Some n = sym (ap (λ (s : Settings). map.get s.known a) same) ∙ is in
    by ((come h h.takes).each a n there) where
      come : (h : WasHandled t frame old told notes new) →
          (ProcessesFrame old.hardware_addr (without_expired old t) frame h.reply h.first h.taken
          ⊎ IsDropped (without_expired old t) h.reply h.first h.taken) →
          Come (ToldByFrame (without_expired old t) frame) (IsFrom (without_expired old t) frame) (without_expired old t) h.taken
      come h (inl p) = frame_came old.hardware_addr (without_expired old t) frame h.reply h.first h.taken refl p
      come h (inr d) = unchanged d.unchanged

      from_before : {b : IpAddress} {h : HardwareAddress} → IsFrom (without_expired old t) frame b h → IsFrom old frame b h
      from_before (law.OverIpv4 packet carried sender hardware) = law.OverIpv4 packet carried sender hardware
      from_before (law.OverIpv6 packet carried sender hardware) = law.OverIpv6 packet carried sender hardware

      by : Came (ToldByFrame (without_expired old t) frame) (IsFrom (without_expired old t) frame) (without_expired old t) a n →
          CameToBeKnown t frame old a n
      by (Was get) = law.WasKnown get
      by (Renewed m get e heard) = law.WasRenewed m get e (from_before heard)
      by (New h e told) = law.WasTold told.own h told.on_ethernet e (told_before t told.told)
