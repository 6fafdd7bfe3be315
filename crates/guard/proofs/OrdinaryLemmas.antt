-- What an ordinary frame is, and that a guard leaves it.
use Rattle.std.proofs.Common.{◌≡◌, ◌≤◌, ◌+◌, ◌*◌, ◌%◌, ◌∙◌, ap, sym, ℕ, Bool, true, false, refl, arith, List, length}
use Rattle.std.specs.Prelude.{ℤ, ◌≢◌, ◌⊎◌, is_none, Option, not, ◌||◌, ◌&&◌, ◌==◌, nat_lt, Some, None, if◌then◌else◌}
use Rattle.std.specs.FinMap as map
use Rattle.std.proofs.lemmas.Bool.Decides.{nat_tests}
use Rattle.ip_wire.specs.Octets.{u16_at}
use Rattle.ip_wire.specs.Ipv6Packet.{address_at}
use Rattle.ip_address.specs.declared.cidr.IpCidr.{IpCidr}
use Rattle.ip_address.specs.declared.hardware.HardwareAddress.{HardwareAddress}
use Rattle.ip_address.specs.declared.ip.IpAddress.{IpAddress}
use Rattle.ip_address.specs.declared.ip.IpAddress.TheVariants.{Ipv6}
use Rattle.iface_tables.specs.Neighbor.{Neighbors, is_before}
use Rattle.iface_tables.specs.declared.neighbor.Neighbor.{Neighbor}
use Rattle.guard.specs.declared.guard.Guard.{Guard}
use Rattle.guard.specs.declared.guard.Reason.{Reason}
use Rattle.guard.specs.declared.guard.Reason.TheVariants as reason
use Rattle.guard.specs.declared.kind.Kind.{Kind}
use Rattle.guard.specs.declared.kind.Kind.TheVariants.{Packet, Other}
use Rattle.guard.specs.declared.kind.Sort.TheVariants.{Transport}
use Rattle.guard.specs.declared.strangers.Limit.{Limit}
use Rattle.guard.specs.declared.watch.Watch.{Watch}
use Rattle.guard.specs.Kind.{ipv4_at, is_echo, is_echo_at, is_echo_ipv4, is_echo_ipv6, is_loop, is_transport, kind_of, message_of, octet_at}
use Rattle.guard.specs.Kind.{packet_of_ipv6, sort_of_ipv4, sort_of_ipv6}
use Rattle.guard.specs.Guard.{after_echo, first_of, has_room, is_ordinary, is_ordinary_sort, is_own, micros, reason_of, reason_unless}
use Rattle.guard.specs.Guard.{after_passing, refusal_of_echo}
use Rattle.guard.specs.Strangers.{end_of_stay, leaves_half, limit_at, limit_for, limit_from, limit_of, may_have_entry, sender_of, packet_sender}
use Rattle.guard.specs.Watch.{admits, after_arrival, after_judging, after_reason, reason_for}
use Rattle.guard.proofs.PassLemmas.{both, by_protocol, is_transport_sort, kind_is, kind_v6, no_message, ordinary_reason, other_protocol}
use Rattle.guard.proofs.PassLemmas.{packet_v6, which}

-- an ordinary frame has a packet of UDP or TCP from its source, which is no own address; or it is cut off in the header of IPv6
pub data IsOrdinary (frame : List ℕ) : Type 0 where
  Whole : kind_of frame ≡ Packet (packet_sender frame) Transport → is_echo frame ≡ false → IsOrdinary frame
  Short : kind_of frame ≡ Other → is_echo frame ≡ false → IsOrdinary frame

and_false : (a b : Bool) → a ≡ false → (a && b) ≡ false
and_false a b e = rw e refl

echo_is_v4 : (short v4 v6 a b : Bool) → short ≡ false → v4 ≡ true → a ≡ false →
    (if short then false else if v4 then a else if v6 then b else false) ≡ false
echo_is_v4 short v4 v6 a b s f e = rw (s, f) e

echo_is_v6 : (short v4 v6 a b : Bool) → short ≡ false → v4 ≡ false → v6 ≡ true → b ≡ false →
    (if short then false else if v4 then a else if v6 then b else false) ≡ false
echo_is_v6 short v4 v6 a b s f x e = rw (s, f, x) e

chosen_source : (v4 : Bool) (a b : IpAddress) (r : Bool) → v4 ≡ r → (if v4 then a else b) ≡ (if r then a else b)
chosen_source v4 a b r e = ap (λ (t : Bool). if t then a else b) e

no_fragment : (p : ℕ) → (p ≡ 6) ⊎ (p ≡ 17) → p ≢ 44
no_fragment p one = other_protocol p 44 one (λ e. absurd cc) (λ e. absurd cc)

module _ (frame : List ℕ) (own : List IpCidr) where
  v4 : 42 ≤ length frame → u16_at frame 12 ≡ 0x0800 → (is_ordinary_sort (sort_of_ipv4 frame) && not (is_own own (ipv4_at frame 26))) ≡ true →
      IsOrdinary frame
  v4 long type is =
      let parts = both (is_ordinary_sort (sort_of_ipv4 frame)) (not (is_own own (ipv4_at frame 26))) is in
      let sort = is_transport_sort (sort_of_ipv4 frame) parts.0 in
      let protocol = by_protocol (not (u16_at frame 20 % 0x4000 == 0))
      ((octet_at frame 23 == 17) && is_loop frame (14 + octet_at frame 14 % 16 * 4)) (is_transport (octet_at frame 23)) sort in
      let one = which (octet_at frame 23) (octet_at frame 23 == 6) (octet_at frame 23 == 17) refl refl protocol in
      let other : octet_at frame 23 ≢ 1 = other_protocol (octet_at frame 23) 1 one (λ e. absurd cc) (λ e. absurd cc) in
      let icmp : (octet_at frame 23 == 1) ≡ false = grind (arith, nat_tests) in
      let short : nat_lt (length frame) 42 ≡ false = grind (arith, nat_tests) in
      let four : (u16_at frame 12 == 0x0800) ≡ true = rw type refl in
      let source : packet_sender frame ≡ ipv4_at frame 26 =
      chosen_source (u16_at frame 12 == 0x0800) (ipv4_at frame 26) (Ipv6 (address_at frame 22)) true four in
      Whole (kind_is frame long type ∙ ap (λ s. Packet (ipv4_at frame 26) s) sort ∙ ap (λ (a : IpAddress). Packet a Transport) (sym source))
      (echo_is_v4 (nat_lt (length frame) 42) (u16_at frame 12 == 0x0800) (u16_at frame 12 == 0x86dd) (is_echo_ipv4 frame) (is_echo_ipv6 frame)
      short four (and_false (octet_at frame 23 == 1)
      (not (u16_at frame 20 % 0x4000 == 0) || (octet_at frame (14 + octet_at frame 14 % 16 * 4) == 8)) icmp))

  by_length : (short : Bool) (a : IpAddress) → packet_sender frame ≡ a → kind_of frame ≡ (if short then Other else Packet a Transport) →
      is_echo frame ≡ false → IsOrdinary frame
  by_length true a source kind echo = Short kind echo
  by_length false a source kind echo = Whole (kind ∙ ap (λ (x : IpAddress). Packet x Transport) (sym source)) echo

  v6 : 42 ≤ length frame → u16_at frame 12 ≡ 0x86dd →
      (is_ordinary_sort (sort_of_ipv6 frame) && not (is_own own (Ipv6 (address_at frame 22)))) ≡ true → IsOrdinary frame
  v6 long type is =
      let parts = both (is_ordinary_sort (sort_of_ipv6 frame)) (not (is_own own (Ipv6 (address_at frame 22)))) is in
      let sort = is_transport_sort (sort_of_ipv6 frame) parts.0 in
      let protocol = by_protocol (octet_at frame 20 == 44) ((octet_at frame 20 == 17) && is_loop frame 54) (is_transport (octet_at frame 20)) sort in
      let one = which (octet_at frame 20) (octet_at frame 20 == 6) (octet_at frame 20 == 17) refl refl protocol in
      let none : message_of frame ≡ None = no_message (octet_at frame 20) (octet_at frame 54) (62 + octet_at frame 55 * 8)
      (other_protocol (octet_at frame 20) 58 one (λ e. absurd cc) (λ e. absurd cc))
      (other_protocol (octet_at frame 20) 0 one (λ e. absurd cc) (λ e. absurd cc)) in
      let other : octet_at frame 20 ≢ 44 = no_fragment (octet_at frame 20) one in
      let cut : (octet_at frame 20 == 44) ≡ false = grind (arith, nat_tests) in
      let short : nat_lt (length frame) 42 ≡ false = grind (arith, nat_tests) in
      let four : (u16_at frame 12 == 0x0800) ≡ false = rw type refl in
      let six : (u16_at frame 12 == 0x86dd) ≡ true = rw type refl in
      let source : packet_sender frame ≡ Ipv6 (address_at frame 22) =
      chosen_source (u16_at frame 12 == 0x0800) (ipv4_at frame 26) (Ipv6 (address_at frame 22)) false four in
      let kind : kind_of frame ≡ packet_of_ipv6 (Ipv6 (address_at frame 22)) frame Transport =
      kind_v6 frame long type ∙ packet_v6 frame (message_of frame) (sort_of_ipv6 frame) none sort refl in
      let no_echo : is_echo_ipv6 frame ≡ false =
      ap (λ (t : Bool). if t then octet_at frame 54 == 58 else is_echo_at (message_of frame) frame) cut
      ∙ ap (λ (m : Option ℕ). is_echo_at m frame) none in
      by_length (nat_lt (length frame) 54) (Ipv6 (address_at frame 22)) source kind
      (echo_is_v6 (nat_lt (length frame) 42) (u16_at frame 12 == 0x0800) (u16_at frame 12 == 0x86dd) (is_echo_ipv4 frame) (is_echo_ipv6 frame)
      short four six no_echo)

  ordinary : is_ordinary frame own ≡ true → IsOrdinary frame
  ordinary is = by (nat_lt (length frame) 42) (u16_at frame 12 == 0x0800) (u16_at frame 12 == 0x86dd) refl refl refl is where
    by : (short four six : Bool) → nat_lt (length frame) 42 ≡ short → (u16_at frame 12 == 0x0800) ≡ four → (u16_at frame 12 == 0x86dd) ≡ six →
        (if short then false
        else if four then is_ordinary_sort (sort_of_ipv4 frame) && not (is_own own (ipv4_at frame 26))
        else if six then is_ordinary_sort (sort_of_ipv6 frame) && not (is_own own (Ipv6 (address_at frame 22)))
        else false) ≡ true → IsOrdinary frame
    by true four six s f x e = absurd cc
    by false true six s f x e = v4 (grind (arith, nat_tests)) (grind (arith, nat_tests)) e
    by false false true s f x e = v6 (grind (arith, nat_tests)) (grind (arith, nat_tests)) e
    by false false false s f x e = absurd cc

-- an ordinary frame is no request for an echo, and passes
no_echo : (frame : List ℕ) → IsOrdinary frame → is_echo frame ≡ false
no_echo frame (Whole kind echo) = echo
no_echo frame (Short kind echo) = echo

none_for : (on : Bool) (why echo : Option Reason) → why ≡ None → echo ≡ None → (if on then first_of why echo else None) ≡ None
none_for true why echo w e = rw (w, e) refl
none_for false why echo w e = refl

same_guard : (b : Bool) (g : Guard) (w : Watch) → g ≡ w.guard → (if b then record w { guard = g } else w) ≡ w
same_guard true g w e = ap (λ (x : Guard). record w { guard = x }) e
same_guard false g w e = refl

module _ (frame : List ℕ) (own : List IpCidr) (w : Watch) (is : is_ordinary frame own ≡ true) (now : ℤ) (hardware : Option HardwareAddress) where
  free : refusal_of_echo now frame w.guard ≡ None
  free =
      ap (λ (t : Bool). if t then reason_unless (has_room (micros now) w.guard.echo_requests) reason.EchoRequest else None)
      (no_echo frame (ordinary frame own is))

  kept : after_echo now frame w.guard ≡ w.guard
  kept =
      ap (λ (t : Bool). if t then record w.guard { echo_requests = after_passing (micros now) w.guard.echo_requests } else w.guard)
      (no_echo frame (ordinary frame own is))

  no_reason : reason_for now frame hardware own w ≡ None
  no_reason =
      none_for w.is_on (reason_of frame hardware own w.guard) (refusal_of_echo now frame w.guard)
      (sym (ordinary_reason frame hardware own w.guard is)) free

  pub leaves_ordinary : (admits now frame hardware own w ≡ true) × (after_arrival now frame hardware own w ≡ w)
  leaves_ordinary = (
    ap (λ (r : Option Reason). is_none r) no_reason,
    ap (λ (r : Option Reason). after_reason now frame r (after_judging now frame hardware own w)) no_reason
        ∙ same_guard (w.is_on && is_none (reason_of frame hardware own w.guard)) (after_echo now frame w.guard) w kept,
  )

-- nor is its sender's entry limited, if he has none, or a confirmed one
by_stay : (off : Bool) (limit : Option Limit) → limit ≡ None → (if off then None else limit) ≡ None
by_stay true limit e = refl
by_stay false limit e = e

may_be : (may : Bool) (limit : Option Limit) → limit ≡ None → (if may then limit else None) ≡ None
may_be true limit e = e
may_be false limit e = refl

by_kind : (now : ℤ) (kind kind' : Kind) (own : List IpCidr) (known : Neighbors) (g : Guard) → kind ≡ kind' →
    limit_from now kind' (sender_of kind') own known g ≡ None → limit_from now kind (sender_of kind) own known g ≡ None
by_kind now kind kind' own known g e none = ap (λ (k : Kind). limit_from now k (sender_of k) own known g) e ∙ none

not_limited : (now : ℤ) (frame : List ℕ) (own : List IpCidr) (known : Neighbors) (g : Guard) → IsOrdinary frame →
    limit_of now (Packet (packet_sender frame) Transport) (packet_sender frame) known (map.get known.known (packet_sender frame)) g ≡ None →
    limit_for now frame own known g ≡ None
not_limited now frame own known g (Whole kind echo) none =
    by_stay (g.strangers_stay == 0) (limit_from now (kind_of frame) (sender_of (kind_of frame)) own known g)
    (by_kind now (kind_of frame) (Packet (packet_sender frame) Transport) own known g kind
    (may_be (may_have_entry own (packet_sender frame))
    (limit_of now (Packet (packet_sender frame) Transport) (packet_sender frame) known (map.get known.known (packet_sender frame)) g) none))
not_limited now frame own known g (Short kind echo) none =
    by_stay (g.strangers_stay == 0) (limit_from now (kind_of frame) (sender_of (kind_of frame)) own known g)
    (by_kind now (kind_of frame) Other own known g kind refl)

pub ordinary_new : (now : ℤ) (frame : List ℕ) (own : List IpCidr) (known : Neighbors) (g : Guard) → is_ordinary frame own ≡ true →
    map.get known.known (packet_sender frame) ≡ None → None ≡ limit_for now frame own known g
ordinary_new now frame own known g is none =
    sym (not_limited now frame own known g (ordinary frame own is)
    (ap (λ (n : Option Neighbor). limit_of now (Packet (packet_sender frame) Transport) (packet_sender frame) known n g) none))

by_end : (late : Bool) (limit : Option Limit) → late ≡ true → (if late then None else limit) ≡ None
by_end late limit e = rw e refl

pub ordinary_confirmed : (now : ℤ) (frame : List ℕ) (own : List IpCidr) (known : Neighbors) (g : Guard) (n : Neighbor) →
    is_ordinary frame own ≡ true → map.get known.known (packet_sender frame) ≡ Some n → is_before (end_of_stay now g) n.expires_at ≡ true →
    None ≡ limit_for now frame own known g
ordinary_confirmed now frame own known g n is some late =
    sym (not_limited now frame own known g (ordinary frame own is)
    (ap (λ (x : Option Neighbor). limit_of now (Packet (packet_sender frame) Transport) (packet_sender frame) known x g) some
    ∙ by_end (is_before (end_of_stay now g) n.expires_at)
    (if leaves_half now known g then None else Some (limit_at now (packet_sender frame) None g)) late))
