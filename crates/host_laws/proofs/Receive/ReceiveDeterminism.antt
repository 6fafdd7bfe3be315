-- What is done with a frame is determined by it and by the host, but for which neighbour makes room for a new one.
use Rattle.std.proofs.Common.{◌≡◌, ◌⊎◌, ℕ, ◌≤◌, Bool, true, false, List, [], ◌∷◌, refl, sym, ◌∙◌, ap, inl, Option, Some, None, arith}
use Rattle.std.proofs.lemmas.Bool.Decides.{nat_tests}
use Rattle.std.specs.Prelude.{ℤ, map, nat_lt}
use Rattle.std.specs.FinMap as finite
use Rattle.net_base.specs.Device.{Frame, Nothing, Withheld}
use Rattle.ip_address.specs.declared.ethernet_address.EthernetAddress.{EthernetAddress}
use Rattle.ip_address.specs.declared.hardware.HardwareAddress.{HardwareAddress}
use Rattle.ip_address.specs.declared.hardware.HardwareAddress.TheVariants as hardware
use Rattle.ip_address.specs.declared.ipv6.Ipv6Address.{Ipv6Address}
use Rattle.ip_address.specs.declared.protocol.IpProtocol.{IpProtocol}
use Rattle.ip_address.specs.declared.protocol.IpProtocol.TheVariants as protocol
use Rattle.ip_wire.specs.declared.ethernet.EthernetProtocol.{EthernetProtocol}
use Rattle.ip_wire.specs.declared.ethernet.EthernetProtocol.TheVariants as ethertype
use Rattle.ip_wire.specs.declared.ip_packet.IpRepr.{IpRepr}
use Rattle.ip_wire.specs.declared.ipv4_packet.Ipv4Repr.{Ipv4Repr}
use Rattle.ip_wire.specs.declared.ipv4_packet.Ipv4Fragment.{Ipv4Fragment}
use Rattle.ip_wire.specs.declared.ipv6_packet.Ipv6Repr.{Ipv6Repr}
use Rattle.control_wire.specs.declared.icmpv6.Icmpv6Repr.{Icmpv6Repr}
use Rattle.control_wire.specs.declared.icmpv6.Icmpv6Repr.TheVariants as icmp
use Rattle.control_wire.specs.declared.ndisc.NdiscRepr.{NdiscRepr}
use Rattle.control_wire.specs.Icmpv6.{icmpv6_in}
use Rattle.control_wire.specs.declared.mld.MldRepr.{MldRepr}
use Rattle.control_wire.specs.declared.mld.MldRepr.TheVariants.{Query, Report}
use Rattle.fragmentation.specs.declared.key.FragKey.{FragKey}
use Rattle.fragmentation.specs.Fragments.{Fragment}
use Rattle.fragmentation.specs.Slots.{Slot, Slots}
use Rattle.fragmentation.specs.Reassembly.{SlotNote, Enters, Stood, Taken, Reassembles, NoSlot, Unfit, Waits, Rebuilt}
use Rattle.fragmentation.proofs.FragmentsLemmas.{rebuilt_once}
use Rattle.host_machine.specs.Context.Note.{Note, OfSlots}
use Rattle.host_machine.specs.Context.Host.{Host, Storage, with_places, with_slots}
use Rattle.host_machine.specs.Sockets.Delivery.{IsFirst, NoneAccepts, DeliversFirst}
use Rattle.host_machine.specs.Receive.Reply.{Reply, IsDropped}
use Rattle.host_machine.specs.Discovery.Arp.{ProcessesArp}
use Rattle.host_machine.specs.Discovery.Arp as arp
use Rattle.host_machine.specs.Sockets.Udp.{ProcessesUdp}
use Rattle.host_machine.specs.Sockets.Udp as udp
use Rattle.host_machine.specs.Sockets.Tcp.{ProcessesTcp}
use Rattle.host_machine.specs.Sockets.Tcp as tcp
use Rattle.host_machine.specs.Icmp.Icmpv4.{ProcessesIcmpv4}
use Rattle.host_machine.specs.Icmp.Icmpv4 as icmpv4
use Rattle.host_machine.specs.Multicast.Igmp as igmp
use Rattle.host_machine.specs.Multicast.Mld as mld_rules
use Rattle.host_machine.specs.Receive.Reassembly.{TakesFragment}
use Rattle.host_machine.specs.Discovery.Ndisc.{Learns, ProcessesNdiscMessage, ProcessesNdisc, advertised_lladdr, usable_lladdr}
use Rattle.host_machine.specs.Discovery.Ndisc as ndisc
use Rattle.host_machine.specs.Icmp.Icmpv6.{ProcessesMessage, ProcessesIcmpv6}
use Rattle.host_machine.specs.Icmp.Icmpv6 as icmpv6
use Rattle.host_machine.specs.Receive.Ipv4 as ipv4
use Rattle.host_machine.specs.Receive.Ipv6 as ipv6
use Rattle.host_machine.specs.Receive.Ethernet.{ProcessesEthertype, ProcessesEthernet, ProcessesFrame}
use Rattle.host_machine.specs.Receive.Ethernet as ethernet
use Rattle.host_laws.specs.Laws.Determined.{OtherMadeRoom, IsOneReception, ReceptionIsDetermined}
use Rattle.host_laws.proofs.Discovery.RoomMade.{filled_once}

-- two that do the same as a third
agree : {r r' o : Option Reply} {n n' ns : List Note} {x x' K : Host} →
    r ≡ o → n ≡ ns → x ≡ K → r' ≡ o → n' ≡ ns → x' ≡ K → IsOneReception r r' n n' x x'
agree r n x r' n' x' = record { reply_is = r ∙ sym r'; noted_is = n ∙ sym n'; taken_is = inl (x ∙ sym x') }

dropped : {r r' : Option Reply} {n n' : List Note} {H x x' : Host} → IsDropped H r n x → IsDropped H r' n' x' → IsOneReception r r' n n' x x'
dropped d e = agree d.silent d.unnoted d.unchanged e.silent e.unnoted e.unchanged

-- the first place that accepts is one
first_is_one : {test : Storage → Bool} {places : List Storage} {i j : ℕ} {p q : Storage} → IsFirst test places i p → IsFirst test places j q → i ≡ j
first_is_one {test} {places} {i} {j} {p} {q} f g = by (nat_lt i j) (nat_lt j i) refl refl where
  clash : {b : Bool} → b ≡ true → b ≡ false → ⊥
  clash one other = absurd cc

  by : (b c : Bool) → nat_lt i j ≡ b → nat_lt j i ≡ c → i ≡ j
  by true c less more = absurd (clash f.accepts (g.none_before i p (grind (arith, nat_tests)) f.is_there))
  by false true less more = absurd (clash g.accepts (f.none_before j q (grind (arith, nat_tests)) g.is_there))
  by false false less more = grind (arith, nat_tests)

none_is_first : {test : Storage → Bool} {places : List Storage} {i : ℕ} {p : Storage} → NoneAccepts test places → IsFirst test places i p → ⊥
none_is_first {test} {places} {i} {p} none f = let refused = none i p f.is_there in let taken = f.accepts in absurd cc

delivered_once : {test : Storage → Bool} {deliver : Storage → Storage} {old new new' : List Storage} →
    DeliversFirst test deliver old new → DeliversFirst test deliver old new' → new ≡ new'
delivered_once {test} {deliver} {old} d e =
    let at_one : d.index ≡ e.index = first_is_one d.first e.first in
    let there : Some d.place ≡ Some e.place = sym d.first.is_there ∙ rw at_one e.first.is_there in
    let same : d.place ≡ e.place = cc in
    d.changed ∙ rw (at_one, same) (sym e.changed)

udp_once : {handled_by_raw_socket : Bool} {r : IpRepr} {H x x' : Host} {octets : List ℕ} {o o' : Option Reply} {n n' : List Note} →
    ProcessesUdp handled_by_raw_socket r H octets o n x → ProcessesUdp handled_by_raw_socket r H octets o' n' x' → IsOneReception o o' n n' x x'
udp_once (udp.Malformed m d) (udp.Malformed m' e) = dropped d e
udp_once (udp.Malformed m d) (udp.Delivered places u f o n x) = absurd (m u)
udp_once (udp.Malformed m d) (udp.NotAccepted u none o n x) = absurd (m u)
udp_once (udp.Delivered places u f o n x) (udp.Malformed m d) = absurd (m u)
udp_once {H = H} (udp.Delivered places u f o n x) (udp.Delivered places' u' f' o' n' x') =
    agree o n x o' n' (x' ∙ ap (with_places H) (delivered_once f' f))
udp_once (udp.Delivered places u f o n x) (udp.NotAccepted u' none o' n' x') = absurd (none_is_first none f.first)
udp_once (udp.NotAccepted u none o n x) (udp.Malformed m d) = absurd (m u)
udp_once (udp.NotAccepted u none o n x) (udp.Delivered places u' f o' n' x') = absurd (none_is_first none f.first)
udp_once (udp.NotAccepted u none o n x) (udp.NotAccepted u' none' o' n' x') = agree o n x o' n' x'

tcp_once : {handled_by_raw_socket : Bool} {r : IpRepr} {H x x' : Host} {octets : List ℕ} {o o' : Option Reply} {n n' : List Note} →
    ProcessesTcp handled_by_raw_socket r H octets o n x → ProcessesTcp handled_by_raw_socket r H octets o' n' x' → IsOneReception o o' n n' x x'
tcp_once (tcp.BetweenUnspecified b d) (tcp.BetweenUnspecified b' e) = dropped d e
tcp_once (tcp.BetweenUnspecified b d) (tcp.Malformed c m e) = absurd cc
tcp_once (tcp.BetweenUnspecified b d) (tcp.Delivered i p c t f o n x) = absurd cc
tcp_once (tcp.BetweenUnspecified b d) (tcp.NotAccepted c t none o n x) = absurd cc
tcp_once (tcp.Malformed c m d) (tcp.BetweenUnspecified b e) = absurd cc
tcp_once (tcp.Malformed c m d) (tcp.Malformed c' m' e) = dropped d e
tcp_once (tcp.Malformed c m d) (tcp.Delivered i p c' t f o n x) = absurd (m t)
tcp_once (tcp.Malformed c m d) (tcp.NotAccepted c' t none o n x) = absurd (m t)
tcp_once (tcp.Delivered i p c t f o n x) (tcp.BetweenUnspecified b d) = absurd cc
tcp_once (tcp.Delivered i p c t f o n x) (tcp.Malformed c' m d) = absurd (m t)
tcp_once (tcp.Delivered i p c t f o n x) (tcp.Delivered j q c' t' g o' n' x') =
    let at_one : i ≡ j = first_is_one f g in
    let there : Some p ≡ Some q = sym f.is_there ∙ rw at_one g.is_there in
    let same : p ≡ q = cc in
    agree o n x (rw same o') n' (rw (at_one, same) x')
tcp_once (tcp.Delivered i p c t f o n x) (tcp.NotAccepted c' t' none o' n' x') = absurd (none_is_first none f)
tcp_once (tcp.NotAccepted c t none o n x) (tcp.BetweenUnspecified b d) = absurd cc
tcp_once (tcp.NotAccepted c t none o n x) (tcp.Malformed c' m d) = absurd (m t)
tcp_once (tcp.NotAccepted c t none o n x) (tcp.Delivered i p c' t' f o' n' x') = absurd (none_is_first none f)
tcp_once (tcp.NotAccepted c t none o n x) (tcp.NotAccepted c' t' none' o' n' x') = agree o n x o' n' x'

icmpv4_once : {r : Ipv4Repr} {H x x' : Host} {octets : List ℕ} {o o' : Option Reply} {n n' : List Note} →
    ProcessesIcmpv4 r H octets o n x → ProcessesIcmpv4 r H octets o' n' x' → IsOneReception o o' n n' x x'
icmpv4_once (icmpv4.Malformed m d) (icmpv4.Malformed m' e) = dropped d e
icmpv4_once (icmpv4.Malformed m d) (icmpv4.Taken i o n x) = absurd (m i)
icmpv4_once (icmpv4.Taken i o n x) (icmpv4.Malformed m d) = absurd (m i)
icmpv4_once (icmpv4.Taken i o n x) (icmpv4.Taken i' o' n' x') = agree o n x o' n' x'

igmp_once : {r : Ipv4Repr} {H x x' : Host} {octets : List ℕ} {o o' : Option Reply} {n n' : List Note} →
    igmp.ProcessesIgmp r H octets o n x → igmp.ProcessesIgmp r H octets o' n' x' → IsOneReception o o' n n' x x'
igmp_once (igmp.Malformed m d) (igmp.Malformed m' e) = dropped d e
igmp_once (igmp.Malformed m d) (igmp.Taken i o n x) = absurd (m i)
igmp_once (igmp.Taken i o n x) (igmp.Malformed m d) = absurd (m i)
igmp_once (igmp.Taken i o n x) (igmp.Taken i' o' n' x') = agree o n x o' n' x'

refused_v4 : {handled_by_raw_socket : Bool} {r : Ipv4Repr} {H x x' : Host} {octets : List ℕ} {o o' : Option Reply} {n n' : List Note} →
    ipv4.IsRefused handled_by_raw_socket r H octets o n x → ipv4.IsRefused handled_by_raw_socket r H octets o' n' x' → IsOneReception o o' n n' x x'
refused_v4 d e = agree d.replied d.unnoted d.unchanged e.replied e.unnoted e.unchanged

protocol_v4 : (p : IpProtocol) (handled_by_raw_socket : Bool) (r : Ipv4Repr) (H : Host) (octets : List ℕ)
    {o o' : Option Reply} {n n' : List Note} {x x' : Host} →
    ipv4.ProcessesProtocol p handled_by_raw_socket r H octets o n x →
    ipv4.ProcessesProtocol p handled_by_raw_socket r H octets o' n' x' → IsOneReception o o' n n' x x'
protocol_v4 protocol.Icmp handled_by_raw_socket r H octets t u = icmpv4_once t u
protocol_v4 protocol.Udp handled_by_raw_socket r H octets t u = udp_once t u
protocol_v4 protocol.Tcp handled_by_raw_socket r H octets t u = tcp_once t u
protocol_v4 protocol.Igmp handled_by_raw_socket r H octets t u = igmp_once t u
protocol_v4 protocol.HopByHop handled_by_raw_socket r H octets t u = refused_v4 t u
protocol_v4 protocol.Icmpv6 handled_by_raw_socket r H octets t u = refused_v4 t u
protocol_v4 (protocol.Unknown n) handled_by_raw_socket r H octets t u = refused_v4 t u

whole_once : {source : HardwareAddress} {r : Ipv4Repr} {H x x' : Host} {payload : List ℕ} {o o' : Option Reply} {n n' : List Note} →
    ipv4.ProcessesDatagram source r H payload o n x → ipv4.ProcessesDatagram source r H payload o' n' x' → IsOneReception o o' n n' x x'
whole_once (ipv4.NotForUs u d) (ipv4.NotForUs v e) = dropped d e
whole_once (ipv4.NotForUs u d) (ipv4.Accepted v t) = absurd cc
whole_once (ipv4.Accepted u t) (ipv4.NotForUs v d) = absurd cc
whole_once {source} {r} {H} {x} {x'} {payload} (ipv4.Accepted u t) (ipv4.Accepted v s) = protocol_v4 r.next_header _ r _ payload t s

-- fragments
record OneFragment (result result' : Option (List ℕ)) (notes notes' : List SlotNote) (slots slots' : Slots) : Type 0 where
  result_is : result ≡ result'
  notes_are : notes ≡ notes'
  slots_are : slots ≡ slots'

record OneSlot (slot slot' : Slot) (first first' : List SlotNote) : Type 0 where
  slot_is : slot ≡ slot'
  first_is : first ≡ first'

enters_once : {ends : ℤ} {key : FragKey} {slots : Slots} {slot slot' : Slot} {first first' : List SlotNote} →
    Enters ends key slots slot first → Enters ends key slots slot' first' → OneSlot slot slot' first first'
enters_once {slot = slot} {slot' = slot'} (Stood s n) (Stood s' n') = let found : Some slot ≡ Some slot' = sym s ∙ s' in
    record { slot_is = cc; first_is = n ∙ sym n' }
enters_once (Stood s n) (Taken none few is n') = absurd cc
enters_once (Taken none few is n) (Stood s n') = absurd cc
enters_once (Taken none few is n) (Taken none' few' is' n') = record { slot_is = is ∙ sym is'; first_is = n ∙ sym n' }

-- a slot that is entered is there, or may be taken
no_slot_enters : {ends : ℤ} {key : FragKey} {slots : Slots} {slot : Slot} {first : List SlotNote} →
    finite.get slots.held key ≡ None → slots.room ≤ finite.len slots.held → Enters ends key slots slot first → ⊥
no_slot_enters none full (Stood s n) = absurd cc
no_slot_enters none full (Taken free few is n) = absurd (omega (arith, full, few))

reassembled_once : {ends : ℤ} {key : FragKey} {f : Fragment} {result result' : Option (List ℕ)}
    {slots new new' : Slots} {notes notes' : List SlotNote} →
    Reassembles ends key f result slots notes new → Reassembles ends key f result' slots notes' new' →
    OneFragment result result' notes notes' new new'
reassembled_once (NoSlot none full o n x) (NoSlot none' full' o' n' x') =
    record { result_is = o ∙ sym o'; notes_are = n ∙ sym n'; slots_are = x ∙ sym x' }
reassembled_once (NoSlot none full o n x) (Unfit slot first e fit o' n' x') = absurd (no_slot_enters none full e)
reassembled_once (NoSlot none full o n x) (Waits slot first e fit wait o' n' x') = absurd (no_slot_enters none full e)
reassembled_once (NoSlot none full o n x) (Rebuilt slot first octets e fit whole o' n' x') = absurd (no_slot_enters none full e)
reassembled_once (Unfit slot first e fit o n x) (NoSlot none full o' n' x') = absurd (no_slot_enters none full e)
reassembled_once (Unfit slot first e fit o n x) (Unfit slot' first' e' fit' o' n' x') = let s = enters_once e e' in
    record { result_is = o ∙ sym o'; notes_are = n ∙ rw s.first_is (sym n'); slots_are = x ∙ rw s.slot_is (sym x') }
reassembled_once (Unfit slot first e fit o n x) (Waits slot' first' e' fit' wait o' n' x') = let s = (enters_once e e').slot_is in absurd cc
reassembled_once (Unfit slot first e fit o n x) (Rebuilt slot' first' octets e' fit' whole o' n' x') = let s = (enters_once e e').slot_is in absurd cc
reassembled_once (Waits slot first e fit wait o n x) (NoSlot none full o' n' x') = absurd (no_slot_enters none full e)
reassembled_once (Waits slot first e fit wait o n x) (Unfit slot' first' e' fit' o' n' x') = let s = (enters_once e e').slot_is in absurd cc
reassembled_once (Waits slot first e fit wait o n x) (Waits slot' first' e' fit' wait' o' n' x') = let s = enters_once e e' in
    record { result_is = o ∙ sym o'; notes_are = n ∙ rw s.first_is (sym n'); slots_are = x ∙ rw s.slot_is (sym x') }
reassembled_once (Waits slot first e fit wait o n x) (Rebuilt slot' first' octets e' fit' whole o' n' x') = let s = (enters_once e e').slot_is in
    absurd (wait octets (rw s whole))
reassembled_once (Rebuilt slot first octets e fit whole o n x) (NoSlot none full o' n' x') = absurd (no_slot_enters none full e)
reassembled_once (Rebuilt slot first octets e fit whole o n x) (Unfit slot' first' e' fit' o' n' x') = let s = (enters_once e e').slot_is in absurd cc
reassembled_once (Rebuilt slot first octets e fit whole o n x) (Waits slot' first' e' fit' wait o' n' x') = let s = (enters_once e e').slot_is in
    absurd (wait octets (rw (← s) whole))
reassembled_once (Rebuilt slot first octets e fit whole o n x) (Rebuilt slot' first' octets' e' fit' whole' o' n' x') =
    let s = enters_once e e' in
    let same : octets ≡ octets' = rebuilt_once _ octets octets' whole (rw s.slot_is whole') in
    record { result_is = o ∙ rw same (sym o'); notes_are = n ∙ rw (s.first_is, same) (sym n'); slots_are = x ∙ sym x' }

-- by a host
record OneTaking (result result' : Option (List ℕ)) (notes notes' : List Note) (new new' : Host) : Type 0 where
  result_is : result ≡ result'
  notes_are : notes ≡ notes'
  host_is : new ≡ new'

fragment_once : {key : FragKey} {f : Fragment} {result result' : Option (List ℕ)} {H new new' : Host} {notes notes' : List Note} →
    TakesFragment key f result H notes new → TakesFragment key f result' H notes' new' → OneTaking result result' notes notes' new new'
fragment_once {H = H} t u = let one = reassembled_once t.reassembles u.reassembles in
    record {
      result_is = one.result_is;
      notes_are = t.noted ∙ ap (map OfSlots) one.notes_are ∙ sym u.noted;
      host_is = t.changed ∙ ap (with_slots H) one.slots_are ∙ sym u.changed;
    }

packet_once : {source : HardwareAddress} {r : Ipv4Repr} {f : Ipv4Fragment} {H x x' : Host}
    {payload : List ℕ} {o o' : Option Reply} {n n' : List Note} →
    ipv4.ProcessesPacket source r f H payload o n x → ipv4.ProcessesPacket source r f H payload o' n' x' → IsOneReception o o' n n' x x'
packet_once (ipv4.FromNoHost s d) (ipv4.FromNoHost s' e) = dropped d e
packet_once (ipv4.FromNoHost s d) (ipv4.Part s' g t o) = absurd cc
packet_once (ipv4.FromNoHost s d) (ipv4.Completed octets mid first rest s' g t w n) = absurd cc
packet_once (ipv4.FromNoHost s d) (ipv4.Whole s' g t) = absurd cc
packet_once (ipv4.Part s g t o) (ipv4.FromNoHost s' d) = absurd cc
packet_once (ipv4.Part s g t o) (ipv4.Part s' g' t' o') = let one = fragment_once t t' in
    record { reply_is = o ∙ sym o'; noted_is = one.notes_are; taken_is = inl one.host_is }
packet_once (ipv4.Part s g t o) (ipv4.Completed octets mid first rest s' g' t' w n) = let one : None ≡ Some octets = (fragment_once t t').result_is in
    absurd cc
packet_once (ipv4.Part s g t o) (ipv4.Whole s' g' t') = absurd cc
packet_once (ipv4.Completed octets mid first rest s g t w n) (ipv4.FromNoHost s' d) = absurd cc
packet_once (ipv4.Completed octets mid first rest s g t w n) (ipv4.Part s' g' t' o) = let one : Some octets ≡ None = (fragment_once t t').result_is in
    absurd cc
packet_once {n = n} {n' = n'} (ipv4.Completed octets mid first rest s g t w e) (ipv4.Completed octets' mid' first' rest' s' g' t' w' e') =
    let one = fragment_once t t' in
    let results : Some octets ≡ Some octets' = one.result_is in
    let same : octets ≡ octets' = cc in
    let two = whole_once w (rw (same, one.host_is) w') in
    record { reply_is = two.reply_is; noted_is = e ∙ rw (one.notes_are, two.noted_is) (sym e'); taken_is = two.taken_is }
packet_once (ipv4.Completed octets mid first rest s g t w n) (ipv4.Whole s' g' t') = absurd cc
packet_once (ipv4.Whole s g t) (ipv4.FromNoHost s' d) = absurd cc
packet_once (ipv4.Whole s g t) (ipv4.Part s' g' t' o) = absurd cc
packet_once (ipv4.Whole s g t) (ipv4.Completed octets mid first rest s' g' t' w n) = absurd cc
packet_once (ipv4.Whole s g t) (ipv4.Whole s' g' t') = whole_once t t'

ipv4_once : {source : HardwareAddress} {H x x' : Host} {octets : List ℕ} {o o' : Option Reply} {n n' : List Note} →
    ipv4.ProcessesIpv4 source H octets o n x → ipv4.ProcessesIpv4 source H octets o' n' x' → IsOneReception o o' n n' x x'
ipv4_once (ipv4.Malformed m d) (ipv4.Malformed m' e) = dropped d e
ipv4_once (ipv4.Malformed m d) (ipv4.Read i t) = absurd (m i)
ipv4_once (ipv4.Read i t) (ipv4.Malformed m d) = absurd (m i)
ipv4_once (ipv4.Read i t) (ipv4.Read i' t') = packet_once t t'

-- neighbours that are learnt
learnt_once : (o : Option EthernetAddress) (a : Ipv6Address) (H : Host) {x x' : Host} →
    Learns o a H x → Learns o a H x' → (x ≡ x') ⊎ OtherMadeRoom x x'
learnt_once None a H e e' = inl (e ∙ sym e')
learnt_once (Some h) a H l m = filled_once H l.filled m.filled l.same m.same

heard_once : {own : EthernetAddress} {r : Ipv6Repr} {message : NdiscRepr} {H x x' : Host} {o o' : Option Reply} {n n' : List Note} →
    ProcessesNdiscMessage own r H o n x message → ProcessesNdiscMessage own r H o' n' x' message → IsOneReception o o' n n' x x'
heard_once {own} {r} {message} {H} (ndisc.Advertised flags target lladdr l o n) (ndisc.Advertised _ _ _ l' o' n') =
    record { reply_is = o ∙ sym o'; noted_is = n ∙ sym n'; taken_is = learnt_once (advertised_lladdr H r flags target lladdr) r.src_addr H l l' }
heard_once (ndisc.NoUnicast target lladdr none d) (ndisc.NoUnicast _ _ none' e) = dropped d e
heard_once (ndisc.NoUnicast target lladdr none d) (ndisc.Solicited _ _ some l o n) = absurd cc
heard_once (ndisc.Solicited target lladdr some l o n) (ndisc.NoUnicast _ _ none d) = absurd cc
heard_once {own} {r} {message} {H} (ndisc.Solicited target lladdr some l o n) (ndisc.Solicited _ _ some' l' o' n') =
    record { reply_is = o ∙ sym o'; noted_is = n ∙ sym n'; taken_is = learnt_once (usable_lladdr lladdr target) r.src_addr H l l' }

ndisc_once : {r : Ipv6Repr} {message : NdiscRepr} {H x x' : Host} {o o' : Option Reply} {n n' : List Note} →
    ProcessesNdisc r message H o n x → ProcessesNdisc r message H o' n' x' → IsOneReception o o' n n' x x'
ndisc_once (ndisc.FromAfar far d) (ndisc.FromAfar far' e) = dropped d e
ndisc_once (ndisc.FromAfar far d) (ndisc.WithoutAddresses mine e) = dropped d e
ndisc_once (ndisc.FromAfar far d) (ndisc.FromNeighbor own near mine h) = absurd cc
ndisc_once (ndisc.WithoutAddresses mine d) (ndisc.FromAfar far e) = dropped d e
ndisc_once (ndisc.WithoutAddresses mine d) (ndisc.WithoutAddresses mine' e) = dropped d e
ndisc_once (ndisc.WithoutAddresses mine d) (ndisc.FromNeighbor own near mine' h) = absurd cc
ndisc_once (ndisc.FromNeighbor own near mine h) (ndisc.FromAfar far d) = absurd cc
ndisc_once (ndisc.FromNeighbor own near mine h) (ndisc.WithoutAddresses mine' d) = absurd cc
ndisc_once (ndisc.FromNeighbor own near mine h) (ndisc.FromNeighbor own' near' mine' h') =
    let owns : hardware.Ethernet own ≡ hardware.Ethernet own' = sym mine ∙ mine' in
    let same : own ≡ own' = cc in
    heard_once h (rw same h')

mld_once : (r : Ipv6Repr) (m : MldRepr) (H : Host) {x x' : Host} {o o' : Option Reply} {n n' : List Note} →
    mld_rules.ProcessesMld r m H o n x → mld_rules.ProcessesMld r m H o' n' x' → IsOneReception o o' n n' x x'
mld_once r (Query code group) H t u = agree t.0 t.1 t.2 u.0 u.1 u.2
mld_once r (Report count) H t u = dropped t u

message_once : (r : Ipv6Repr) (m : Icmpv6Repr) (octets : List ℕ) (H : Host) {x x' : Host} {o o' : Option Reply} {n n' : List Note} →
    ProcessesMessage r m octets H o n x → ProcessesMessage r m octets H o' n' x' →
    IsOneReception o o' n n' x x'
message_once r (icmp.EchoRequest ident seq_no) octets H t u = agree t.0 t.1 t.2 u.0 u.1 u.2
message_once r (icmp.Ndisc message) octets H t u = ndisc_once t u
message_once r (icmp.Router message) octets H t u = agree t.0 t.1 t.2 u.0 u.1 u.2
message_once r (icmp.Mld message) octets H t u = mld_once r message H t u
message_once r (icmp.EchoReply ident seq_no) octets H t u = dropped t u
message_once r (icmp.DstUnreachable reason header) octets H t u = dropped t u
message_once r (icmp.PktTooBig mtu header) octets H t u = dropped t u
message_once r (icmp.TimeExceeded code header) octets H t u = dropped t u
message_once r (icmp.ParamProblem reason pointer header) octets H t u = dropped t u

icmpv6_once : {r : Ipv6Repr} {H x x' : Host} {octets : List ℕ} {o o' : Option Reply} {n n' : List Note} →
    ProcessesIcmpv6 r H octets o n x → ProcessesIcmpv6 r H octets o' n' x' → IsOneReception o o' n n' x x'
icmpv6_once (icmpv6.Malformed m d) (icmpv6.Malformed m' e) = dropped d e
icmpv6_once (icmpv6.Malformed m d) (icmpv6.Taken i t) = absurd (m i)
icmpv6_once (icmpv6.Taken i t) (icmpv6.Malformed m d) = absurd (m i)
icmpv6_once {r} {H} {x} {x'} {octets} (icmpv6.Taken i t) (icmpv6.Taken i' u) =
    message_once r (icmpv6_in octets).0 (icmpv6_in octets).1 (icmpv6.host_after_delivery r octets H) t u

refused_v6 : {handled_by_raw_socket : Bool} {r : Ipv6Repr} {H x x' : Host} {octets : List ℕ} {o o' : Option Reply} {n n' : List Note} →
    ipv6.IsRefused handled_by_raw_socket r H octets o n x → ipv6.IsRefused handled_by_raw_socket r H octets o' n' x' → IsOneReception o o' n n' x x'
refused_v6 d e = agree d.replied d.unnoted d.unchanged e.replied e.unnoted e.unchanged

protocol_v6 : (p : IpProtocol) (handled_by_raw_socket : Bool) (r : Ipv6Repr) (H : Host) (octets : List ℕ)
    {o o' : Option Reply} {n n' : List Note} {x x' : Host} →
    ipv6.ProcessesProtocol p handled_by_raw_socket r H octets o n x →
    ipv6.ProcessesProtocol p handled_by_raw_socket r H octets o' n' x' → IsOneReception o o' n n' x x'
protocol_v6 protocol.Icmpv6 handled_by_raw_socket r H octets t u = icmpv6_once t u
protocol_v6 protocol.Udp handled_by_raw_socket r H octets t u = udp_once t u
protocol_v6 protocol.Tcp handled_by_raw_socket r H octets t u = tcp_once t u
protocol_v6 protocol.Icmp handled_by_raw_socket r H octets t u = refused_v6 t u
protocol_v6 protocol.Igmp handled_by_raw_socket r H octets t u = refused_v6 t u
protocol_v6 protocol.HopByHop handled_by_raw_socket r H octets t u = refused_v6 t u
protocol_v6 (protocol.Unknown n) handled_by_raw_socket r H octets t u = refused_v6 t u

payload_v6 : {source : HardwareAddress} {r : Ipv6Repr} {p : IpProtocol} {H x x' : Host} {payload : List ℕ} {o o' : Option Reply} {n n' : List Note} →
    ipv6.ProcessesDatagramV6 source r p H payload o n x → ipv6.ProcessesDatagramV6 source r p H payload o' n' x' → IsOneReception o o' n n' x x'
payload_v6 (ipv6.NotForUs u d) (ipv6.NotForUs v e) = dropped d e
payload_v6 (ipv6.NotForUs u d) (ipv6.Accepted v t) = absurd cc
payload_v6 (ipv6.Accepted u t) (ipv6.NotForUs v d) = absurd cc
payload_v6 {source} {r} {p} {H} {x} {x'} {payload} (ipv6.Accepted u t) (ipv6.Accepted v s) = protocol_v6 p _ r _ payload t s

options_v6 : {source : HardwareAddress} {r : Ipv6Repr} {H x x' : Host} {payload : List ℕ} {o o' : Option Reply} {n n' : List Note} →
    ipv6.ProcessesHopByHop source r H payload o n x → ipv6.ProcessesHopByHop source r H payload o' n' x' →
    IsOneReception o o' n n' x x'
options_v6 (ipv6.MalformedOptions m d) (ipv6.MalformedOptions m' e) = dropped d e
options_v6 (ipv6.MalformedOptions m d) (ipv6.Skipped i s t) = absurd (m i)
options_v6 (ipv6.MalformedOptions m d) (ipv6.Discarded failure i f s o n x) = absurd (m i)
options_v6 (ipv6.Skipped i s t) (ipv6.MalformedOptions m d) = absurd (m i)
options_v6 (ipv6.Skipped i s t) (ipv6.Skipped i' s' t') = payload_v6 t t'
options_v6 (ipv6.Skipped i s t) (ipv6.Discarded failure i' f other o n x) = absurd (other (sym f ∙ s))
options_v6 (ipv6.Discarded failure i f other o n x) (ipv6.MalformedOptions m d) = absurd (m i)
options_v6 (ipv6.Discarded failure i f other o n x) (ipv6.Skipped i' s t) = absurd (other (sym f ∙ s))
options_v6 (ipv6.Discarded failure i f other o n x) (ipv6.Discarded failure' i' f' other' o' n' x') =
    let same : failure ≡ failure' = sym f ∙ f' in agree o n x (rw same o') n' x'

packet_v6 : {source : HardwareAddress} {r : Ipv6Repr} {H x x' : Host} {payload : List ℕ} {o o' : Option Reply} {n n' : List Note} →
    ipv6.ProcessesPacket source r H payload o n x → ipv6.ProcessesPacket source r H payload o' n' x' →
    IsOneReception o o' n n' x x'
packet_v6 (ipv6.FromNoHost s d) (ipv6.FromNoHost s' e) = dropped d e
packet_v6 (ipv6.FromNoHost s d) (ipv6.WithOptions s' z t) = absurd cc
packet_v6 (ipv6.FromNoHost s d) (ipv6.Bare s' z t) = absurd cc
packet_v6 (ipv6.WithOptions s z t) (ipv6.FromNoHost s' d) = absurd cc
packet_v6 (ipv6.WithOptions s z t) (ipv6.WithOptions s' z' t') = options_v6 t t'
packet_v6 (ipv6.WithOptions s z t) (ipv6.Bare s' other t') = absurd (other z)
packet_v6 (ipv6.Bare s z t) (ipv6.FromNoHost s' d) = absurd cc
packet_v6 (ipv6.Bare s other t) (ipv6.WithOptions s' z t') = absurd (other z)
packet_v6 (ipv6.Bare s z t) (ipv6.Bare s' z' t') = payload_v6 t t'

ipv6_once : {source : HardwareAddress} {H x x' : Host} {octets : List ℕ} {o o' : Option Reply} {n n' : List Note} →
    ipv6.ProcessesIpv6 source H octets o n x → ipv6.ProcessesIpv6 source H octets o' n' x' → IsOneReception o o' n n' x x'
ipv6_once (ipv6.Malformed m d) (ipv6.Malformed m' e) = dropped d e
ipv6_once (ipv6.Malformed m d) (ipv6.Read i t) = absurd (m i)
ipv6_once (ipv6.Read i t) (ipv6.Malformed m d) = absurd (m i)
ipv6_once (ipv6.Read i t) (ipv6.Read i' t') = packet_v6 t t'

arp_once : {own : EthernetAddress} {H x x' : Host} {payload : List ℕ} {o o' : Option Reply} {n n' : List Note} →
    ProcessesArp own H payload o n x → ProcessesArp own H payload o' n' x' → IsOneReception o o' n n' x x'
arp_once (arp.Malformed m d) (arp.Malformed m' e) = dropped d e
arp_once (arp.Malformed m d) (arp.NotForUs i l e) = absurd (m i)
arp_once (arp.Malformed m d) (arp.Learnt i l s o n) = absurd (m i)
arp_once (arp.NotForUs i l d) (arp.Malformed m e) = absurd (m i)
arp_once (arp.NotForUs i l d) (arp.NotForUs i' l' e) = dropped d e
arp_once (arp.NotForUs i l d) (arp.Learnt i' l' s o n) = absurd cc
arp_once (arp.Learnt i l s o n) (arp.Malformed m d) = absurd (m i)
arp_once (arp.Learnt i l s o n) (arp.NotForUs i' l' d) = absurd cc
arp_once {H = H} (arp.Learnt i l s o n) (arp.Learnt i' l' s' o' n') =
    record { reply_is = o ∙ sym o'; noted_is = n ∙ sym n'; taken_is = filled_once H s.filled s'.filled s.same s'.same }

payload_once : (own source : EthernetAddress) (H : Host) (p : EthernetProtocol) (payload : List ℕ) {o o' : Option Reply} {n n' : List Note}
    {x x' : Host} → ProcessesEthertype own source H p payload o n x →
    ProcessesEthertype own source H p payload o' n' x' → IsOneReception o o' n n' x x'
payload_once own source H ethertype.Arp payload t u = arp_once t u
payload_once own source H ethertype.Ipv4 payload t u = ipv4_once t u
payload_once own source H ethertype.Ipv6 payload t u = ipv6_once t u
payload_once own source H (ethertype.Unknown number) payload t u = dropped t u

ethernet_once : {own : EthernetAddress} {H x x' : Host} {frame : List ℕ} {o o' : Option Reply} {n n' : List Note} →
    ProcessesEthernet own H frame o n x → ProcessesEthernet own H frame o' n' x' → IsOneReception o o' n n' x x'
ethernet_once (ethernet.Malformed m d) (ethernet.Malformed m' e) = dropped d e
ethernet_once (ethernet.Malformed m d) (ethernet.NotForUs l f e) = absurd (m l)
ethernet_once (ethernet.Malformed m d) (ethernet.Accepted l f t) = absurd (m l)
ethernet_once (ethernet.NotForUs l f d) (ethernet.Malformed m e) = absurd (m l)
ethernet_once (ethernet.NotForUs l f d) (ethernet.NotForUs l' f' e) = dropped d e
ethernet_once (ethernet.NotForUs l f d) (ethernet.Accepted l' f' t) = absurd cc
ethernet_once (ethernet.Accepted l f t) (ethernet.Malformed m d) = absurd (m l)
ethernet_once (ethernet.Accepted l f t) (ethernet.NotForUs l' f' d) = absurd cc
ethernet_once {own} {H} {x} {x'} {frame} (ethernet.Accepted l f t) (ethernet.Accepted l' f' t') = payload_once own _ H _ _ t t'

frame_once : (h : HardwareAddress) (H : Host) (frame : List ℕ) {o o' : Option Reply} {n n' : List Note} {x x' : Host} →
    ProcessesFrame h H frame o n x → ProcessesFrame h H frame o' n' x' → IsOneReception o o' n n' x x'
frame_once (hardware.Ethernet own) H frame t u = ethernet_once t u
frame_once hardware.Ip H frame (ethernet.Ipv4 v t) (ethernet.Ipv4 v' t') = ipv4_once t t'
frame_once hardware.Ip H frame (ethernet.Ipv4 v t) (ethernet.Ipv6 v' t') = absurd cc
frame_once hardware.Ip H frame (ethernet.Ipv4 v t) (ethernet.OtherVersion v' w d) = absurd (v' v)
frame_once hardware.Ip H frame (ethernet.Ipv6 v t) (ethernet.Ipv4 v' t') = absurd cc
frame_once hardware.Ip H frame (ethernet.Ipv6 v t) (ethernet.Ipv6 v' t') = ipv6_once t t'
frame_once hardware.Ip H frame (ethernet.Ipv6 v t) (ethernet.OtherVersion v' w d) = absurd (w v)
frame_once hardware.Ip H frame (ethernet.OtherVersion v w d) (ethernet.Ipv4 v' t) = absurd (v v')
frame_once hardware.Ip H frame (ethernet.OtherVersion v w d) (ethernet.Ipv6 v' t) = absurd (w v')
frame_once hardware.Ip H frame (ethernet.OtherVersion v w d) (ethernet.OtherVersion v' w' e) = dropped d e

pub received_once : ReceptionIsDetermined
received_once Nothing H new new' reply reply' notes notes' t u = dropped t u
received_once Withheld H new new' reply reply' notes notes' t u = dropped t u
received_once (Frame []) H new new' reply reply' notes notes' t u = dropped t u
received_once (Frame (octet ∷ octets)) H new new' reply reply' notes notes' t u = frame_once H.hardware_addr H (octet ∷ octets) t u
