-- The frame of a packet, by the lists of the host with whose ways it is sent.
use Rattle.std.proofs.Common.{◌≡◌, ◌⊎◌, ℕ, ◌+◌, ◌%◌, ◌^◌, List, [], ◌∷◌, ◌++◌, refl, sym, ◌∙◌, ap, subst, inl, inr}
use Rattle.std.proofs.Common.{Option, Some, arith}
use Rattle.std.proofs.lemmas.Int.{ints}
use Rattle.std.specs.Prelude.{ℤ, ◌≤ℤ◌, ◌<ℤ◌, slice_get}
use Rattle.std.specs.FinMap.{FinMap}
use Rattle.std.specs.FinMap as map
use Rattle.std.specs.List.{AllByRecursion}
use Rattle.net_base.specs.Time.{silence_from}
use Rattle.net_base.specs.declared.phy.DeviceCapabilities.{DeviceCapabilities}
use Rattle.ip_address.specs.Ip.{address_cmp}
use Rattle.ip_address.specs.declared.cidr.IpCidr.{IpCidr}
use Rattle.ip_address.specs.declared.ethernet_address.EthernetAddress.{EthernetAddress}
use Rattle.ip_address.specs.declared.hardware.HardwareAddress.{HardwareAddress}
use Rattle.ip_address.specs.declared.hardware.HardwareAddress.TheVariants as hardware
use Rattle.ip_address.specs.declared.ip.IpAddress.{IpAddress}
use Rattle.ip_address.specs.declared.ip.IpAddress.TheVariants as address
use Rattle.ip_address.specs.declared.ipv6.Ipv6Address.{Ipv6Address}
use Rattle.ip_wire.specs.declared.ethernet.EthernetProtocol.TheVariants as protocol
use Rattle.control_wire.specs.declared.icmpv6.Icmpv6Repr.TheVariants.{Ndisc}
use Rattle.control_wire.specs.declared.ndisc.NdiscRepr.TheVariants.{NeighborSolicit}
use Rattle.fragmentation.specs.Cuts.{pieces_of}
use Rattle.iface_tables.specs.declared.neighbor.Answer.TheVariants.{NotFound}
use Rattle.iface_tables.specs.declared.neighbor.Neighbor.{Neighbor}
use Rattle.iface_tables.specs.declared.route.Route.{Route}
use Rattle.iface_tables.specs.Neighbor.{answer_from, answer_of}
use Rattle.host_machine.specs.Context.Note.{Note}
use Rattle.host_machine.specs.Context.Host.{Host, with_next_id}
use Rattle.host_machine.specs.Packet.Packet.{Packet, Icmpv6}
use Rattle.host_machine.specs.Packet.Packet as packet
use Rattle.host_machine.specs.Packet.Frame.{ip_frame, link_header, packet_text, ethertype_of, piece_text}
use Rattle.host_machine.specs.Send.Outcome.{Outcome, IsUnsent}
use Rattle.host_machine.specs.Send.Dispatch.{Emits, DispatchesByHop, DispatchesEthernet, SendsOver, Dispatches, destination_of}
use Rattle.host_machine.specs.Send.Requests.{Discovers}
use Rattle.host_machine.specs.Context.Pieces.{datagram_of}
use Rattle.host_machine.specs.Send.Dispatch as dispatch
use Rattle.host_machine.specs.Send.Requests as requests
use Rattle.host_laws.specs.Laws.Restraint.Chosen.{IsChosenFor}
use Rattle.host_laws.specs.Laws.Restraint.NextHop.{AreApart, AsksFor, GoesByHop, HopIs, IsLive, IsLongest, IsOneHost}
use Rattle.host_laws.specs.Laws.Restraint.NextHop.{IsSentTo, IsSourceFor, IsToAll, MayBeUsed}
use Rattle.host_laws.specs.Laws.Restraint.NextHop as law
use Rattle.host_laws.specs.Laws.Restraint.Neighbors.{IsNear}
use Rattle.host_laws.specs.Laws.Restraint.SentFrames.{SendsAs, IsOfPacket}
use Rattle.host_laws.proofs.Interface.OneFrameCalls.{dispatched}
use Rattle.host_laws.proofs.Runs.DiscoverySpacing.{silence_passed}
use Rattle.host_laws.proofs.Send.HopsByLists.{all_reached, go_by_hops, groups_reached, ip_reached}
use Rattle.host_laws.proofs.Interface.SettledFields.{dispatch_leaves}

-- what sending reads of a host
pub record Ways : Type 0 where
  pub capabilities : DeviceCapabilities
  pub hardware_addr : HardwareAddress
  pub moment : ℤ
  pub ip_addrs : List IpCidr
  pub routes : List Route
  pub known : FinMap address_cmp Neighbor

abbrev pub ways_of : Host → Ways
ways_of H = record {
  capabilities = H.capabilities;
  hardware_addr = H.hardware_addr;
  moment = H.moment;
  ip_addrs = H.ip_addrs;
  routes = H.routes;
  known = H.neighbors.known;
}

pub ways_same : {H K : Host} → SendsAs H K → ways_of K ≡ ways_of H
ways_same a = rw (a.capabilities, a.hardware_address, a.moment, a.addresses, a.routes, a.neighbors) refl

pub as_itself : (H : Host) → SendsAs H H
as_itself H = record {
  capabilities = refl;
  hardware_address = refl;
  moment = refl;
  addresses = refl;
  routes = refl;
  neighbors = refl;
  silence = inl refl;
}

-- the silence after a part: it was there, or it began
abbrev pub Silenced : Host → Host → Type 0
Silenced K L = (L.neighbors.silent_until ≡ K.neighbors.silent_until) ⊎ (L.neighbors.silent_until ≡ silence_from K.moment)

pub as_then : {H K L : Host} → SendsAs H K → ways_of L ≡ ways_of K → Silenced K L → SendsAs H L
as_then {H} {K} {L} a e s = record {
  capabilities = ap (λ (w : Ways). w.capabilities) e ∙ a.capabilities;
  hardware_address = ap (λ (w : Ways). w.hardware_addr) e ∙ a.hardware_address;
  moment = ap (λ (w : Ways). w.moment) e ∙ a.moment;
  addresses = ap (λ (w : Ways). w.ip_addrs) e ∙ a.addresses;
  routes = ap (λ (w : Ways). w.routes) e ∙ a.routes;
  neighbors = ap (λ (w : Ways). w.known) e ∙ a.neighbors;
  silence = by s a.silence;
} where
  by : Silenced K L → Silenced H K → Silenced H L
  by (inl x) (inl y) = inl (x ∙ y)
  by (inl x) (inr y) = inr (x ∙ y)
  by (inr x) y = inr (x ∙ ap silence_from a.moment)

-- the silence after a dispatch
unsent : {H new : Host} {frames : List (List ℕ)} {notes : List Note} → IsUnsent H frames notes new → Silenced H new
unsent u = inl (ap (λ (K : Host). K.neighbors.silent_until) u.unchanged)

emitted : {id : ℕ} {p : Packet} {h : HardwareAddress} {outcome : Outcome} {H new : Host} {frames : List (List ℕ)} {notes : List Note} →
    Emits id p h outcome H frames notes new → Silenced H new
emitted (dispatch.Whole fits formed o f n e) = inl (ap (λ (K : Host). K.neighbors.silent_until) e)
emitted (dispatch.InPieces q first rest is long short pieces fits formed o f n e) = inl (ap (λ (K : Host). K.neighbors.silent_until) e)
emitted (dispatch.TooLong long longer o u) = unsent u

discovered : {own : EthernetAddress} {hop : IpAddress} {outcome : Outcome} {H new : Host} {frames : List (List ℕ)} {notes : List Note} →
    Discovers own hop outcome H frames notes new → Silenced H new
discovered (requests.Asked target source h s o f n e) = inr (ap (λ (K : Host). K.neighbors.silent_until) e)
discovered (requests.NoSource target h s o u) = unsent u
discovered (requests.Solicited target h o f n e) = inr (ap (λ (K : Host). K.neighbors.silent_until) e)

by_hop : {id : ℕ} {own : EthernetAddress} {p : Packet} {hop : IpAddress} {outcome : Outcome} {H new : Host}
    {frames : List (List ℕ)} {notes : List Note} → DispatchesByHop id own p hop outcome H frames notes new → Silenced H new
by_hop (dispatch.Known h k e) = emitted e
by_hop (dispatch.Silent s o u) = unsent u
by_hop (dispatch.Unknown u d) = discovered d

over_ethernet : {id : ℕ} {own : EthernetAddress} {p : Packet} {outcome : Outcome} {H new : Host} {frames : List (List ℕ)} {notes : List Note} →
    DispatchesEthernet id own p outcome H frames notes new → Silenced H new
over_ethernet (dispatch.ToMulticast h m e) = emitted e
over_ethernet (dispatch.NoHop m n o u) = unsent u
over_ethernet (dispatch.ByHop hop m n s) = by_hop s

over : (id : ℕ) (h : HardwareAddress) (p : Packet) (outcome : Outcome) (H : Host) (frames : List (List ℕ)) (notes : List Note) (new : Host) →
    SendsOver id h p outcome H frames notes new → Silenced H new
over id (hardware.Ethernet own) p outcome H frames notes new s = over_ethernet s
over id hardware.Ip p outcome H frames notes new s = emitted s

pub silenced : {p : Packet} {outcome : Outcome} {H new : Host} {frames : List (List ℕ)} {notes : List Note} →
    Dispatches p outcome H frames notes new → Silenced H new
silenced (dispatch.ToUnspecified n o u) = unsent u
silenced {p} {outcome} {H} {new} {frames} (dispatch.ToSpecified more s d n) =
    over H.ipv4_id H.hardware_addr p outcome (with_next_id H) frames more new d

pub as_after : {H K L : Host} {p : Packet} {outcome : Outcome} {frames : List (List ℕ)} {notes : List Note} →
    SendsAs H K → Dispatches p outcome K frames notes L → SendsAs H L
as_after a d = as_then a (dispatch_leaves ways_of (λ H. refl) (λ H. refl) (λ H rest. refl) d) (silenced d)

-- where nothing of it changed
pub as_kept : {H K L : Host} → ways_of L ≡ ways_of K → L.neighbors.silent_until ≡ K.neighbors.silent_until → SendsAs H K → SendsAs H L
as_kept e s a = as_then a e (inl s)

-- a live entry
live_as : {H K : Host} (a : IpAddress) (h : HardwareAddress) → SendsAs H K → IsLive K a h → IsLive H a h
live_as {H} {K} a h s l = record {
  entry = l.entry;
  there = subst (λ (w : Ways). map.get w.known a ≡ Some l.entry) (ways_same s) l.there;
  hardware_address = l.hardware_address;
  live = subst (λ (w : Ways). w.moment <ℤ l.entry.expires_at) (ways_same s) l.live;
}

-- no request was sent in this call before
unknown_as : {H K : Host} (a : IpAddress) → SendsAs H K →
    answer_of K.neighbors a K.moment ≡ NotFound → answer_of H.neighbors a H.moment ≡ NotFound
unknown_as {H} {K} a s e = by s.silence where
  here : answer_from (map.get H.neighbors.known a) K.neighbors.silent_until H.moment ≡ NotFound
  here = subst (λ (w : Ways). answer_from (map.get w.known a) K.neighbors.silent_until w.moment ≡ NotFound) (ways_same s) e

  by : Silenced H K → answer_of H.neighbors a H.moment ≡ NotFound
  by (inl x) = subst (λ u. answer_from (map.get H.neighbors.known a) u H.moment ≡ NotFound) x here
  by (inr x) =
      let passed = silence_passed (map.get H.neighbors.known a) K.neighbors.silent_until H.moment here in
      let late : silence_from H.moment ≤ℤ H.moment = subst (λ u. u ≤ℤ H.moment) x passed in
      absurd (omega (arith, ints, late))

-- the host's lists
hop_as : {H K : Host} {a : IpAddress} {next : Option IpAddress} → SendsAs H K → HopIs H a next → HopIs K a next
hop_as {a = a} s (law.Itself near e) = law.Itself (subst (λ (w : Ways). IsNear w.ip_addrs a) (sym (ways_same s)) near) e
hop_as {a = a} s (law.Gateway i r apart longest host e) =
    law.Gateway i r (subst (λ (w : Ways). AreApart w.ip_addrs a) (sym (ways_same s)) apart)
    (subst (λ (w : Ways). IsLongest w.routes a w.moment i r) (sym (ways_same s)) longest) host e
hop_as {a = a} s (law.NoRouteTo apart none e) =
    law.NoRouteTo (subst (λ (w : Ways). AreApart w.ip_addrs a) (sym (ways_same s)) apart)
    (subst (λ (w : Ways). (i : ℕ) (r : Route) → slice_get w.routes i ≡ Some r → MayBeUsed r a w.moment → ⊥) (sym (ways_same s)) none) e

ip_frame_as : {H K : Host} (h : HardwareAddress) (p : Packet) → SendsAs H K → ip_frame K h p ≡ ip_frame H h p
ip_frame_as h p s = ap (λ (w : Ways). link_header w.hardware_addr h (ethertype_of p) ++ packet_text w.capabilities p) (ways_same s)

sent_as : {H K : Host} {h : HardwareAddress} {p : Packet} {frame : List ℕ} → SendsAs H K → IsSentTo K h p frame → IsSentTo H h p frame
sent_as {h = h} {p = p} s (law.Whole e) = law.Whole (e ∙ ip_frame_as h p s)
sent_as {H} {K} {h} {p} {frame} s (law.FirstPiece id q first rest is pieces to e) =
    law.FirstPiece id q first rest is
    (subst (λ c. pieces_of (datagram_of (record H { capabilities = c }) h id q) ≡ first ∷ rest) s.capabilities pieces) to
    (e ∙ ap (λ (w : Ways). link_header w.hardware_addr first.destination protocol.Ipv4 ++ piece_text w.capabilities first) (ways_same s))

all_as : {H K : Host} (h : HardwareAddress) (p : Packet) (frames : List (List ℕ)) → SendsAs H K → AllByRecursion (IsSentTo K h p) frames →
    AllByRecursion (IsSentTo H h p) frames
all_as h p [] s all = tt
all_as h p (frame ∷ frames) s all = (sent_as s all.0, all_as h p frames s all.1)

-- a solicitation
abbrev solicitation : EthernetAddress → Ipv6Address → Ipv6Address → Packet
solicitation own a source = packet.Ipv6 (record {
  src_addr = source;
  dst_addr = record { bits = 0xff02_0000_0000_0000_0000_0001_ff00_0000 + a.bits % 2 ^ 24 };
  hop_limit = 255;
  payload = Icmpv6 (Ndisc (NeighborSolicit a (Some own))) [];
})

asks_as : {own : EthernetAddress} {H K : Host} {frame : List ℕ} {a : IpAddress} → SendsAs H K → AsksFor own K frame a → AsksFor own H frame a
asks_as s (law.ByArp a source is e) = law.ByArp a source (subst (λ (w : Ways). IsSourceFor w.ip_addrs a source) (ways_same s) is) e
asks_as {own} s (law.BySolicitation a source group chosen e) =
    law.BySolicitation a source group (subst (λ (w : Ways). IsChosenFor w.ip_addrs (address.Ipv6 a) (address.Ipv6 source)) (ways_same s) chosen) (e ∙ ip_frame_as (hardware.Ethernet group) (solicitation own a source) s)

goes_as : {own : EthernetAddress} {H K : Host} {p : Packet} {next : Option IpAddress} {outcome : Outcome} {frames : List (List ℕ)} →
    (frames ≡ [] → ⊥) → SendsAs H K → GoesByHop own K p next outcome frames → GoesByHop own H p next outcome frames
goes_as some s (law.NoHop n o f) = law.NoHop n o f
goes_as {p = p} {frames = frames} some s (law.Known a h n k o all) = law.Known a h n (live_as a h s k) o (all_as h p frames s all)
goes_as some s (law.Silent a n r o f) = absurd (some f)
goes_as some s (law.Asked a frame n u o f asks) = law.Asked a frame n (unknown_as a s u) o f (asks_as s asks)
goes_as some s (law.NoSource a n u o f none) = absurd (some f)

-- the frame of a packet
of_packet : {H K L : Host} {p : Packet} {outcome : Outcome} {frame : List ℕ} {notes : List Note} →
    SendsAs H K → Dispatches p outcome K (frame ∷ []) notes L → IsOfPacket H p frame
of_packet {H} {K} {L} {p} {outcome} {frame} {notes} s d = record {
  outcome = outcome;
  before = K;
  after = L;
  notes = notes;
  same = s;
  dispatched = d;
  by_hop = λ own next on one is. goes_as (λ e. absurd cc) s (go_by_hops own p next outcome K L (frame ∷ []) notes d (s.hardware_address ∙ on)
      (subst (λ x. IsOneHost x (destination_of p)) (sym s.addresses) one) (hop_as s is));
  to_group = λ own on group apart.
      let g = groups_reached own p outcome K L (frame ∷ []) notes d (s.hardware_address ∙ on) group
      (subst (λ x. AreApart x (destination_of p)) (sym s.addresses) apart) in (g.0, g.1, sent_as s g.2.0);
  to_all = λ own on all. sent_as s (all_reached d (s.hardware_address ∙ on) (subst (λ x. IsToAll x (destination_of p)) (sym s.addresses) all)).0;
  without_addresses = λ on. sent_as s (ip_reached d (s.hardware_address ∙ on)).0;
}

pub of_packets : {H K L : Host} {p : Packet} {outcome : Outcome} {notes : List Note} (frames : List (List ℕ)) →
    SendsAs H K → Dispatches p outcome K frames notes L → AllByRecursion (IsOfPacket H p) frames
of_packets [] s d = tt
of_packets (frame ∷ []) s d = (of_packet s d, tt)
of_packets (frame ∷ other ∷ frames) s d = let few = dispatched d in absurd (omega (arith, few))

pub all_by : {P Q : List ℕ → Type 0} (frames : List (List ℕ)) → ((frame : List ℕ) → P frame → Q frame) → AllByRecursion P frames →
    AllByRecursion Q frames
all_by [] f all = tt
all_by (frame ∷ frames) f all = (f frame all.0, all_by frames f all.1)
