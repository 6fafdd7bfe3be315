-- An ordinary frame tells nothing: its protocol isn't ICMP.
use Rattle.std.proofs.Common.{◌≡◌, ◌∙◌, ℕ, Bool, true, false, List, Option, None, arith, length, drop, ap, refl, sym}
use Rattle.std.specs.Prelude.{◌+◌, ◌*◌, ◌/◌, ◌%◌, ◌==◌, ◌&&◌, ◌||◌, not, nat_le, nat_lt, slice_index, if◌then◌else◌}
use Rattle.std.proofs.lemmas.Bool.Decides.{nat_tests}
use Rattle.std.proofs.lemmas.List.{get_or-drop, length-drop}
use Rattle.ip_address.specs.declared.cidr.IpCidr.{IpCidr}
use Rattle.ip_address.specs.declared.ip.IpAddress.TheVariants.{Ipv6}
use Rattle.ip_wire.specs.Ipv6Packet.{address_at}
use Rattle.ip_wire.specs.Octets.{u16_at}
use Rattle.guard.specs.Guard.{is_ordinary_sort, is_own}
use Rattle.guard.specs.Kind.{ipv4_at, is_loop, is_transport, octet_at, sort_of_ipv4, sort_of_ipv6}
use Rattle.guard.specs.declared.kind.Sort.TheVariants.{Fragment, Loop, Transport, Plain}
use Rattle.net_base.specs.declared.phy.ChecksumCapabilities.{ChecksumCapabilities}
use Rattle.net_base.specs.declared.phy.Medium.{Medium}
use Rattle.net_base.specs.declared.phy.Medium.TheVariants as medium
use Rattle.iface_host.specs.Calls.{addresses_of}
use Rattle.iface_host.specs.Errors.{error_in, error_in_ethernet, error_in_ipv4, error_in_ipv6, error_in_packet, error_on, may_tell_at, packet_at}
use Rattle.iface_host.specs.ErrorLaws.{OrdinaryFramesTellNothing}
use Rattle.iface_host.specs.LastErrors.{after_error, with_error_if}
use Rattle.iface_host.specs.declared.host.IfaceHost.{IfaceHost}
use Rattle.iface_host.specs.declared.errors.PacketError.{PacketError}

and_false : (b : Bool) → (b && false) ≡ false
and_false true = refl
and_false false = refl

-- a packet of another protocol tells nothing
nothing_ipv4 : (c : ChecksumCapabilities) (own : List IpCidr) (p : List ℕ) → (slice_index p 9 == 1) ≡ false → error_in_ipv4 c own p ≡ None
nothing_ipv4 c own p other = rw (other, and_false (nat_le 20 (length p))) refl

nothing_ipv6 : (c : ChecksumCapabilities) (own : List IpCidr) (p : List ℕ) → (slice_index p 6 == 58) ≡ false → error_in_ipv6 c own p ≡ None
nothing_ipv6 c own p other = rw (other, and_false (nat_le 40 (length p))) refl

-- nor does one that is too short, or has no ICMP at its place
no_packet : (c : ChecksumCapabilities) (own : List IpCidr) (p : List ℕ) →
    (nat_le 20 (length p) && ((slice_index p 9 == 1) || (slice_index p 6 == 58))) ≡ false →
    (error_in_ipv4 c own p ≡ None) × (error_in_ipv6 c own p ≡ None)
no_packet c own p none = by (nat_le 20 (length p)) refl (slice_index p 9 == 1) refl (slice_index p 6 == 58) refl none where
  by : (long : Bool) → nat_le 20 (length p) ≡ long → (four : Bool) → (slice_index p 9 == 1) ≡ four → (six : Bool) → (slice_index p 6 == 58) ≡ six →
      (long && (four || six)) ≡ false → (error_in_ipv4 c own p ≡ None) × (error_in_ipv6 c own p ≡ None)
  by false short four is6 six is58 e =
      let shorter : nat_le 40 (length p) ≡ false = grind (arith, nat_tests) in
      (rw short refl, rw shorter refl)
  by true long true is1 six is58 e = absurd cc
  by true long false is1 true is58 e = absurd cc
  by true long false is1 false is58 e = (nothing_ipv4 c own p is1, nothing_ipv6 c own p is58)

-- UDP and TCP are others
no_icmp : (n : ℕ) → is_transport n ≡ true → (n == 1) ≡ false
no_icmp n is = grind (arith, nat_tests)

no_icmpv6 : (n : ℕ) → is_transport n ≡ true → (n == 58) ≡ false
no_icmpv6 n is = grind (arith, nat_tests)

transport_ipv4 : (frame : List ℕ) → is_ordinary_sort (sort_of_ipv4 frame) ≡ true → is_transport (octet_at frame 23) ≡ true
transport_ipv4 frame is =
    by (not (u16_at frame 20 % 0x4000 == 0)) ((octet_at frame 23 == 17) && is_loop frame (14 + octet_at frame 14 % 16 * 4))
    (is_transport (octet_at frame 23)) is
  where
    by : (piece loop transport : Bool) →
        is_ordinary_sort (if piece then Fragment else if loop then Loop else if transport then Transport else Plain) ≡ true → transport ≡ true
    by true loop transport e = absurd cc
    by false true transport e = absurd cc
    by false false true e = refl
    by false false false e = absurd cc

transport_ipv6 : (frame : List ℕ) → is_ordinary_sort (sort_of_ipv6 frame) ≡ true → is_transport (octet_at frame 20) ≡ true
transport_ipv6 frame is =
    by (octet_at frame 20 == 44) ((octet_at frame 20 == 17) && is_loop frame 54) (is_transport (octet_at frame 20)) is
  where
    by : (piece loop transport : Bool) →
        is_ordinary_sort (if piece then Fragment else if loop then Loop else if transport then Transport else Plain) ≡ true → transport ≡ true
    by true loop transport e = absurd cc
    by false true transport e = absurd cc
    by false false true e = refl
    by false false false e = absurd cc

-- an ordinary frame is so by its type
sorts : (short v4 v6 sort4 other4 sort6 other6 : Bool) →
    (if short then false else if v4 then (sort4 && other4) else if v6 then (sort6 && other6) else false) ≡ true →
    (v4 ≡ true → sort4 ≡ true) × (v4 ≡ false → v6 ≡ true → sort6 ≡ true)
sorts true v4 v6 sort4 other4 sort6 other6 e = absurd cc
sorts false true v6 true other4 sort6 other6 e = (λ _. refl, λ no. absurd cc)
sorts false true v6 false other4 sort6 other6 e = absurd cc
sorts false false true sort4 other4 true other6 e = (λ no. absurd cc, λ _ _. refl)
sorts false false true sort4 other4 false other6 e = absurd cc
sorts false false false sort4 other4 sort6 other6 e = absurd cc

none_by : (short v4 v6 : Bool) (four six : Option PacketError) → (v4 ≡ true → four ≡ None) → (v4 ≡ false → v6 ≡ true → six ≡ None) →
    (if short then None else if v4 then four else if v6 then six else None) ≡ None
none_by true v4 v6 four six a b = refl
none_by false true v6 four six a b = a refl
none_by false false true four six a b = b refl refl
none_by false false false four six a b = refl

-- octets behind the header of Ethernet
behind : (frame : List ℕ) (at : ℕ) → slice_index (drop 14 frame) at ≡ slice_index frame (14 + at)
behind frame at = get_or-drop 14 frame at 0

pub ordinary : OrdinaryFramesTellNothing
ordinary c own frame is =
    let by_sort = sorts (nat_lt (length frame) 42) (u16_at frame 12 == 0x0800) (u16_at frame 12 == 0x86dd)
    (is_ordinary_sort (sort_of_ipv4 frame)) (not (is_own own (ipv4_at frame 26)))
    (is_ordinary_sort (sort_of_ipv6 frame)) (not (is_own own (Ipv6 (address_at frame 22)))) is in
    none_by (nat_lt (length frame) 14) (u16_at frame 12 == 0x0800) (u16_at frame 12 == 0x86dd)
    (error_in_ipv4 c own (drop 14 frame)) (error_in_ipv6 c own (drop 14 frame))
    (λ v4. nothing_ipv4 c own (drop 14 frame)
    (ap (λ (n : ℕ). n == 1) (behind frame 9) ∙ no_icmp (octet_at frame 23) (transport_ipv4 frame (by_sort.0 v4))))
    (λ other v6. nothing_ipv6 c own (drop 14 frame)
    (ap (λ (n : ℕ). n == 58) (behind frame 6) ∙ no_icmpv6 (octet_at frame 20) (transport_ipv6 frame (by_sort.1 other v6))))

-- a frame that has no ICMP at its place tells nothing
none_ethernet : (c : ChecksumCapabilities) (own : List IpCidr) (frame : List ℕ) → may_tell_at 14 frame ≡ false → error_in_ethernet c own frame ≡ None
none_ethernet c own frame none =
    let long : nat_le 20 (length (drop 14 frame)) ≡ nat_le 34 (length frame) = simp length-drop (grind (arith, nat_tests)) in
    let none' : (nat_le 20 (length (drop 14 frame)) && ((slice_index (drop 14 frame) 9 == 1) || (slice_index (drop 14 frame) 6 == 58))) ≡ false =
    rw (long, behind frame 9, behind frame 6) none in
    let nothing = no_packet c own (drop 14 frame) none' in
    none_by (nat_lt (length frame) 14) (u16_at frame 12 == 0x0800) (u16_at frame 12 == 0x86dd)
    (error_in_ipv4 c own (drop 14 frame)) (error_in_ipv6 c own (drop 14 frame)) (λ _. nothing.0) (λ _ _. nothing.1)

none_packet : (c : ChecksumCapabilities) (own : List IpCidr) (p : List ℕ) → may_tell_at 0 p ≡ false → error_in_packet c own p ≡ None
none_packet c own p none =
    let nothing = no_packet c own p none in
    by (nat_lt (length p) 20) (slice_index p 0 / 16 == 6) (error_in_ipv6 c own p) (error_in_ipv4 c own p) nothing.1 nothing.0
  where
    by : (short six : Bool) (of_six of_four : Option PacketError) → of_six ≡ None → of_four ≡ None →
        (if short then None else if six then of_six else of_four) ≡ None
    by true six of_six of_four a b = refl
    by false true of_six of_four a b = a
    by false false of_six of_four a b = b

none_on : (m : Medium) (c : ChecksumCapabilities) (own : List IpCidr) (frame : List ℕ) → may_tell_at (packet_at m) frame ≡ false →
    error_on m c own frame ≡ None
none_on medium.Ethernet c own frame none = none_ethernet c own frame none
none_on medium.Ip c own frame none = none_packet c own frame none

-- and nothing is kept of it
pub nothing_kept : (frame : List ℕ) (host : IfaceHost) → may_tell_at (packet_at host.outbox.capabilities.medium) frame ≡ false →
    host ≡ after_error frame host
unfolding error_in
nothing_kept frame host none =
    ap (λ (e : Option PacketError). record host { errors = with_error_if e host.errors })
    (sym (none_on host.outbox.capabilities.medium host.outbox.capabilities.checksum (addresses_of host) frame none))
