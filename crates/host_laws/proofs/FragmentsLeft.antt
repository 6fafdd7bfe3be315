-- What a packet that is sent leaves of the pending fragments.
use Rattle.std.proofs.Common.{◌≡◌, ℕ, ◌+◌, ◌-◌, ◌≤◌, ◌<◌, Bool, true, false, List, [], ◌∷◌, length, refl, sym}
use Rattle.std.proofs.Common.{◌∙◌, ap, subst, Option, Some, None, arith}
use Rattle.std.proofs.lemmas.List.{length-map}
use Rattle.std.proofs.Math.Nat.{div-lt_iff_lt-mul}
use Rattle.std.specs.Prelude.{nat_le, is_ok, if◌then◌else◌}
use Rattle.std.specs.Option.{option_and_then, option_map}
use Rattle.std.proofs.lemmas.Bool.Decides.{nat_tests}
use Rattle.net_base.specs.Checksum.{ip_mtu_of}
use Rattle.net_base.specs.Device.{Event}
use Rattle.ip_address.specs.declared.cidr.IpCidr.{IpCidr}
use Rattle.ip_address.specs.declared.ethernet_address.EthernetAddress.{EthernetAddress}
use Rattle.ip_address.specs.declared.hardware.HardwareAddress.{HardwareAddress}
use Rattle.ip_address.specs.declared.hardware.HardwareAddress.TheVariants as hardware
use Rattle.ip_address.specs.declared.ip.IpAddress.{IpAddress}
use Rattle.ip_address.specs.declared.ip.IpAddress.TheVariants.{Ipv4, Ipv6}
use Rattle.ip_address.specs.declared.ipv4.Ipv4Address.{Ipv4Address}
use Rattle.ip_address.specs.declared.ipv6.Ipv6Address.{Ipv6Address}
use Rattle.control_wire.specs.declared.igmp.IgmpRepr.{IgmpRepr}
use Rattle.control_wire.specs.declared.igmp.IgmpVersion.{IgmpVersion}
use Rattle.control_wire.specs.declared.mld.MldRecordType.TheVariants.{ChangeToInclude, ChangeToExclude}
use Rattle.iface_tables.specs.declared.groups.Group.{Group}
use Rattle.iface_tables.specs.declared.groups.GroupState.{GroupState}
use Rattle.fragmentation.specs.Cuts.{Datagram, Piece, HasForm, count, cut, pieces_of, piece_of}
use Rattle.host_machine.proofs.Receive.Pieces.{length-pieces_from}
use Rattle.host_machine.specs.Context.Note.{Note}
use Rattle.host_machine.specs.Context.Host.{Host, with_next_id}
use Rattle.host_machine.specs.Context.Addresses.{ipv4_addr, link_local_addr}
use Rattle.host_machine.specs.Packet.Packet.{Packet, PacketV4, payload_len, total_len}
use Rattle.host_machine.specs.Packet.Packet as packet
use Rattle.host_machine.specs.Send.Outcome.{Outcome, IsUnsent}
use Rattle.host_machine.specs.Send.Dispatch.{Emits, DispatchesByHop, DispatchesEthernet, SendsOver, Dispatches}
use Rattle.host_machine.specs.Send.Requests.{Discovers}
use Rattle.host_machine.specs.Context.Pieces.{datagram_of, piece_size}
use Rattle.host_machine.specs.Send.Dispatch as dispatch
use Rattle.host_machine.specs.Send.Requests as requests
use Rattle.host_machine.specs.Multicast.Joins.{ReportsEach, ReportsAll, join_packet, leave_packet}
use Rattle.host_machine.specs.Multicast.Igmp as igmp_rules
use Rattle.host_machine.specs.Multicast.Mld as mld_rules
use Rattle.host_machine.specs.Multicast.Joins as joins
use Rattle.host_machine.specs.Multicast.Igmp.{IgmpEgress, next_group, next_report}
use Rattle.host_machine.specs.Multicast.Mld.{MldEgress}
use Rattle.host_machine.specs.Multicast.Igmp as igmp_rules
use Rattle.host_machine.specs.Multicast.Mld as mld_rules
use Rattle.host_machine.specs.Discovery.RouterSolicitation.{NdiscRsEgress, due_solicitation, solicitation_by, solicitation_from}
use Rattle.host_machine.specs.Discovery.RouterSolicitation as slaac
use Rattle.iface_tables.specs.Slaac.{rs_required}
use Rattle.host_laws.proofs.Interface.GrantedEgress.{tells_way}

-- the device of a host takes packets of 576 octets
abbrev pub IsWide : Host → Type 0
IsWide H = 576 ≤ ip_mtu_of H.capabilities

-- what was pending stays; or a long packet was cut, and at most seven fragments are pending behind the first
pub data LeavesFew (p : Packet) (outcome : Outcome) (H new : Host) : Type 0 where
  SameLeft : new.left ≡ H.left → LeavesFew p outcome H new
  FewLeft : is_ok outcome ≡ true → (q : PacketV4) → p ≡ packet.Ipv4 q → ip_mtu_of H.capabilities < total_len p →
      length new.left ≤ 7 → LeavesFew p outcome H new

count_small : (m n : ℕ) → 552 ≤ m → n ≤ 4096 → count m n ≤ 8
count_small m n wide short =
    let few : count m n < 9 = (div-lt_iff_lt-mul {k = m} {x = n + (m - 1)} {y = 9} (omega (arith, wide))).1 (omega (arith, wide, short)) in
    omega (arith, few)

few_behind : (d : Datagram) (first : Piece) (rest : List Piece) →
    pieces_of d ≡ first ∷ rest → HasForm d → 552 ≤ d.size → length rest ≤ 7
few_behind d first rest e form wide =
    let counted : length (pieces_of d) ≡ count d.size (length d.payload) = length-map (cut d.size d.payload) (piece_of d)
    ∙ length-pieces_from d.size d.payload 0 (count d.size (length d.payload)) in
    let several : length (pieces_of d) ≡ length (first ∷ rest) = ap length e in
    omega (arith, counted, several, count_small d.size (length d.payload) wide form.payload)

unsent_left : {p : Packet} {outcome : Outcome} {H new : Host} {frames : List (List ℕ)} {notes : List Note} →
    IsUnsent H frames notes new → LeavesFew p outcome H new
unsent_left u = SameLeft (ap (λ (K : Host). K.left) u.unchanged)

emitted_left : {id : ℕ} {p : Packet} {h : HardwareAddress} {outcome : Outcome} {H new : Host} {frames : List (List ℕ)} {notes : List Note} →
    Emits id p h outcome H frames notes new → IsWide H → LeavesFew p outcome H new
emitted_left (dispatch.Whole fits formed o f n e) wide = SameLeft (ap (λ (K : Host). K.left) e)
emitted_left {id} {p} {h} {outcome} {H} {new} (dispatch.InPieces q first rest is long short pieces fits formed o f n e) wide =
    let size : 552 ≤ piece_size H.capabilities = omega (arith, wide) in
    let behind : length rest ≤ 7 = few_behind (datagram_of H h id q) first rest pieces fits size in
    FewLeft (ap is_ok o) q is long (subst (λ (K : Host). length K.left ≤ 7) (sym e) behind)
emitted_left (dispatch.TooLong long longer o u) wide = unsent_left u

discovered_left : {own : EthernetAddress} {hop : IpAddress} {p : Packet} {outcome : Outcome} {H new : Host}
    {frames : List (List ℕ)} {notes : List Note} →
    Discovers own hop outcome H frames notes new → LeavesFew p outcome H new
discovered_left (requests.Asked target source h s o f n e) = SameLeft (ap (λ (K : Host). K.left) e)
discovered_left (requests.NoSource target h s o u) = unsent_left u
discovered_left (requests.Solicited target h o f n e) = SameLeft (ap (λ (K : Host). K.left) e)

by_hop_left : {id : ℕ} {own : EthernetAddress} {p : Packet} {hop : IpAddress} {outcome : Outcome} {H new : Host}
    {frames : List (List ℕ)} {notes : List Note} →
    DispatchesByHop id own p hop outcome H frames notes new → IsWide H → LeavesFew p outcome H new
by_hop_left (dispatch.Known h k e) wide = emitted_left e wide
by_hop_left (dispatch.Silent s o u) wide = unsent_left u
by_hop_left (dispatch.Unknown u d) wide = discovered_left d

ethernet_left : {id : ℕ} {own : EthernetAddress} {p : Packet} {outcome : Outcome} {H new : Host} {frames : List (List ℕ)} {notes : List Note} →
    DispatchesEthernet id own p outcome H frames notes new → IsWide H → LeavesFew p outcome H new
ethernet_left (dispatch.ToMulticast h m e) wide = emitted_left e wide
ethernet_left (dispatch.NoHop m n o u) wide = unsent_left u
ethernet_left (dispatch.ByHop hop m n s) wide = by_hop_left s wide

over_left : (id : ℕ) (h : HardwareAddress) (p : Packet) (outcome : Outcome) (H : Host) (frames : List (List ℕ)) (notes : List Note) (new : Host) →
    SendsOver id h p outcome H frames notes new → IsWide H → LeavesFew p outcome H new
over_left id (hardware.Ethernet own) p outcome H frames notes new s wide = ethernet_left s wide
over_left id hardware.Ip p outcome H frames notes new s wide = emitted_left s wide

with_id : {p : Packet} {outcome : Outcome} {H new : Host} → LeavesFew p outcome (with_next_id H) new → LeavesFew p outcome H new
with_id (SameLeft e) = SameLeft e
with_id (FewLeft o q is long few) = FewLeft o q is long few

pub dispatched_left : {p : Packet} {outcome : Outcome} {H new : Host} {frames : List (List ℕ)} {notes : List Note} →
    Dispatches p outcome H frames notes new → IsWide H → LeavesFew p outcome H new
dispatched_left (dispatch.ToUnspecified n o u) wide = unsent_left u
dispatched_left {p} {outcome} {H} {new} {frames} {notes} (dispatch.ToSpecified more s d n) wide =
    with_id (over_left H.ipv4_id H.hardware_addr p outcome (with_next_id H) frames more new d wide)

-- Packets that are never cut: those over IPv6, and short ones

abbrev pub is_short : Packet → Bool
is_short (packet.Ipv4 p) = nat_le (payload_len p.payload) 8
is_short (packet.Ipv6 p) = true

never_long : (p : Packet) (q : PacketV4) (mtu : ℕ) → is_short p ≡ true → p ≡ packet.Ipv4 q → mtu < total_len p → 576 ≤ mtu → ⊥
never_long (packet.Ipv4 r) q mtu short is long wide = grind (arith, nat_tests)
never_long (packet.Ipv6 r) q mtu short is long wide = absurd cc

pub short_left : {p : Packet} {outcome : Outcome} {H new : Host} {frames : List (List ℕ)} {notes : List Note} →
    Dispatches p outcome H frames notes new → IsWide H → is_short p ≡ true → new.left ≡ H.left
short_left {p} {outcome} {H} {new} d wide short = by (dispatched_left d wide) where
  by : LeavesFew p outcome H new → new.left ≡ H.left
  by (SameLeft e) = e
  by (FewLeft o q is long few) = absurd (never_long p q (ip_mtu_of H.capabilities) short is long wide)

igmp_short : (own : List IpCidr) (dst : Ipv4Address) (message : IgmpRepr) (p : Packet) →
    igmp_rules.igmp_packet own dst message ≡ Some p → is_short p ≡ true
igmp_short own dst message p = by (ipv4_addr own) where
  by : (o : Option Ipv4Address) → option_map (λ src. packet.Ipv4
      (record { src_addr = src; dst_addr = dst; hop_limit = 1; payload = packet.Igmp message })) o ≡ Some p → is_short p ≡ true
  by None e = absurd cc
  by (Some src) e =
      let same : packet.Ipv4 (record { src_addr = src; dst_addr = dst; hop_limit = 1; payload = packet.Igmp message }) ≡ p = cc in
      ap is_short (sym same)

pub join_short : (own : List IpCidr) (a : IpAddress) (p : Packet) → join_packet own a ≡ Some p → is_short p ≡ true
join_short own (Ipv4 a) p e = igmp_short own _ _ p e
join_short own (Ipv6 a) p e = let same : mld_rules.mld_report own ChangeToExclude (a ∷ []) ≡ p = cc in ap is_short (sym same)

pub leave_short : (own : List IpCidr) (a : IpAddress) (p : Packet) → leave_packet own a ≡ Some p → is_short p ≡ true
leave_short own (Ipv4 a) p e = igmp_short own _ _ p e
leave_short own (Ipv6 a) p e = let same : mld_rules.mld_report own ChangeToInclude (a ∷ []) ≡ p = cc in ap is_short (sym same)

report_short : (H : Host) (p : Packet) → next_report H ≡ Some p → is_short p ≡ true
report_short H p = by (next_group H H.igmp_report) where
  by : (o : Option (IgmpVersion × Ipv4Address)) → option_and_then (λ n. igmp_rules.igmp_report H.ip_addrs n.0 n.1) o ≡ Some p → is_short p ≡ true
  by None e = absurd cc
  by (Some n) e = igmp_short H.ip_addrs _ _ p e

solicitation_short : (H : Host) (p : Packet) → due_solicitation H ≡ Some p → is_short p ≡ true
solicitation_short H p = by (rs_required H.slaac H.moment) H.slaac_enabled H.hardware_addr where
  source : (own : EthernetAddress) (o : Option Ipv6Address) → option_and_then (λ source. Some (solicitation_from own source)) o ≡ Some p →
      is_short p ≡ true
  source own None e = absurd cc
  source own (Some a) e = let same : solicitation_from own a ≡ p = cc in ap is_short (sym same)

  by : (b c : Bool) (h : HardwareAddress) → (if b then (if c then solicitation_by h H.ip_addrs else None) else None) ≡ Some p → is_short p ≡ true
  by true true (hardware.Ethernet own) e = source own (link_local_addr H.ip_addrs) e
  by true true hardware.Ip e = absurd cc
  by true false h e = absurd cc
  by false c h e = absurd cc

-- The parts that send of the host's own leave what was pending

pub routers_left : {H new : Host} {told : List Event} {notes : List Note} → NdiscRsEgress H told notes new → IsWide H → new.left ≡ H.left
routers_left (slaac.NotDue d e m y) wide = ap (λ (K : Host). K.left) y
routers_left (slaac.NotGranted p d e m y) wide = ap (λ (K : Host). K.left) y
routers_left {H} (slaac.Goes p o f mid d s e y) wide = ap (λ (K : Host). K.left) y ∙ short_left s wide (solicitation_short H p d)

module _ (state : GroupState) (packet_for : List IpCidr → IpAddress → Option Packet) (after_report : List Group → IpAddress → List Group)
    (short : (own : List IpCidr) (a : IpAddress) (p : Packet) → packet_for own a ≡ Some p → is_short p ≡ true) where
  tells_left : {old new : Host} {granted : Bool} {told : List Event} {notes : List Note} →
      ReportsEach state packet_for after_report old granted told notes new → IsWide old → new.left ≡ old.left
  tells_left joins.Begins wide = refl
  tells_left (joins.Silently a w i none) wide = tells_left w wide
  tells_left (joins.Refused a p w i some) wide = tells_left w wide
  tells_left {old} (joins.Reported {mid = mid} a p o f more new w i some d) wide =
      let wide_mid : IsWide mid =
      subst (λ c. 576 ≤ ip_mtu_of c) (sym (ap (λ (K : Host). K.capabilities) (tells_way state packet_for after_report w))) wide in
      short_left d wide_mid (short mid.ip_addrs a p some) ∙ tells_left w wide

  pub groups_left : {old new : Host} {told : List Event} {notes : List Note} →
      ReportsAll state packet_for after_report old told notes new → IsWide old → new.left ≡ old.left
  groups_left (joins.All w none) wide = tells_left w wide
  groups_left (joins.UpToRefusal w) wide = tells_left w wide

pub igmp_left : {H new : Host} {told : List Event} {notes : List Note} → IgmpEgress H told notes new → IsWide H → new.left ≡ H.left
igmp_left (igmp_rules.NotDue d e m y) wide = ap (λ (K : Host). K.left) y
igmp_left (igmp_rules.NoFurtherGroup d g e m y) wide = ap (λ (K : Host). K.left) y
igmp_left (igmp_rules.NoAddress next d g a e m y) wide = ap (λ (K : Host). K.left) y
igmp_left (igmp_rules.NotGranted p d r e m y) wide = ap (λ (K : Host). K.left) y
igmp_left {H} (igmp_rules.Sent p o f mid d r s e y) wide = ap (λ (K : Host). K.left) y ∙ short_left s wide (report_short H p r)

pub mld_left : {H new : Host} {told : List Event} {notes : List Note} → MldEgress H told notes new → IsWide H → new.left ≡ H.left
mld_left (mld_rules.NotYet d e m y) wide = ap (λ (K : Host). K.left) y
mld_left (mld_rules.GivenUp d e m y) wide = ap (λ (K : Host). K.left) y
mld_left (mld_rules.ReportGoes o f mid d s e y) wide = ap (λ (K : Host). K.left) y ∙ short_left s wide refl
