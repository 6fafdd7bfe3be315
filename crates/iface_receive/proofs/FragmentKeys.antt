-- A frame without a fragment has no key.
use Rattle.std.proofs.Common.{◌≡◌, ◌≤◌, ◌<◌, ◌+◌, ◌%◌, ◌/◌, ◌*◌, ℕ, Bool, true, false, List, drop, length, refl, sym, ap, ◌∙◌, arith}
use Rattle.std.specs.Prelude.{◌==◌, ◌&&◌, ◌||◌, not, cond, nat_le, slice_index}
use Rattle.std.proofs.lemmas.Bool.Decides.{nat_tests}
use Rattle.std.proofs.lemmas.List.{get_or-drop, length-drop}
use Rattle.fragmentation.specs.declared.key.FragKey.{FragKey}
use Rattle.ip_address.specs.declared.ethernet_address.EthernetAddress.{EthernetAddress}
use Rattle.ip_wire.specs.Octets.{u16_at}
use Rattle.ip_wire.specs.Ethernet.{protocol_of}
use Rattle.ip_wire.specs.declared.ethernet.EthernetProtocol.{EthernetProtocol}
use Rattle.ip_wire.specs.declared.ethernet.EthernetProtocol.TheVariants as protocol
use Rattle.host_machine.specs.Context.Host.{Host}
use Rattle.iface_receive.specs.FragmentKey.{IsFragmentOf, IsFramed, may_be_part, may_be_framed}

word_drop : (at i : ℕ) (octets : List ℕ) → u16_at (drop at octets) i ≡ u16_at octets (at + i)
word_drop at i octets = rw (get_or-drop at octets i 0, get_or-drop at octets (i + 1) 0) (ap (λ n. slice_index octets (at + i) * 256 + slice_index octets n) (omega arith))

no_bits : (w : ℕ) → (w % 0x4000 == 0) ≡ true → (w / 0x2000 % 2 == 1) || not (w % 0x2000 == 0) ≡ true → ⊥
no_bits w e f = grind (arith, nat_tests)

both : (a b : Bool) → (a ≡ false → ⊥) → (b ≡ false → ⊥) → a && b ≡ true
both true true f g = refl
both true false f g = absurd (g refl)
both false b f g = absurd (f refl)

not_false : (a : Bool) → not a ≡ false → a ≡ true
not_false true e = refl
not_false false e = absurd cc

-- octets that begin with a fragment may do so
pub part_there : (at : ℕ) (key : FragKey) (H : Host) (frame : List ℕ) → IsFragmentOf key H (drop at frame) → may_be_part at frame ≡ true
part_there at key H frame f =
    let whole = f.packet.whole in
    let long = length-drop at frame in
    both (nat_le (at + 20) (length frame)) (not (u16_at frame (at + 6) % 0x4000 == 0))
    (λ e. absurd (grind (arith, nat_tests, whole, long, e)))
    (λ e. no_bits (u16_at frame (at + 6)) (not_false (u16_at frame (at + 6) % 0x4000 == 0) e) (rw (word_drop at 6 frame) at f.fragment))

ipv4_number : (n : ℕ) → protocol_of n ≡ protocol.Ipv4 → (n == 0x0800) ≡ true
ipv4_number n = elim (n == 0x0800) as (λ a. cond a protocol.Ipv4 (cond (n == 0x0806) protocol.Arp (cond (n == 0x86dd) protocol.Ipv6 (protocol.Unknown n))) ≡ protocol.Ipv4 → a ≡ true) [
  | true ↦ λ e. refl
  | false ↦ elim (n == 0x0806) as (λ b. cond b protocol.Arp (cond (n == 0x86dd) protocol.Ipv6 (protocol.Unknown n)) ≡ protocol.Ipv4 → false ≡ true) [
    | true ↦ λ e. absurd cc
    | false ↦ elim (n == 0x86dd) as (λ d. cond d protocol.Ipv6 (protocol.Unknown n) ≡ protocol.Ipv4 → false ≡ true) [
      | true ↦ λ e. absurd cc
      | false ↦ λ e. absurd cc
    ]
  ]
]

true_false : true ≡ false → ⊥
true_false e = cc

pub no_frame : (own : EthernetAddress) (key : FragKey) (H : Host) (frame : List ℕ) → may_be_framed frame ≡ false → IsFramed own key H frame → ⊥
no_frame own key H frame none f =
    true_false (sym (rw (part_there 14 key H frame f.fragment, ipv4_number (u16_at frame 12) f.ipv4) refl) ∙ none)

pub no_part : (key : FragKey) (H : Host) (frame : List ℕ) → may_be_part 0 frame ≡ false → IsFragmentOf key H frame → ⊥
no_part key H frame none f = true_false (sym (part_there 0 key H frame f) ∙ none)
