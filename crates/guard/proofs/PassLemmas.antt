-- What nobody named passes a guard.
use Rattle.std.proofs.Common.{◌≡◌, ◌≤◌, ◌+◌, ◌*◌, ◌∙◌, sym, ℕ, zero, suc, Bool, true, false, refl, inl, inr, arith, List, [], ◌∷◌, length}
use Rattle.std.specs.Prelude.{◌⊎◌, ◌≢◌, Option, not, ◌||◌, ◌&&◌, ◌==◌, nat_lt, slice_get, Some, None, if◌then◌else◌}
use Rattle.std.specs.List.{list_any}
use Rattle.std.proofs.lemmas.Bool.Decides.{nat_tests}
use Rattle.ip_wire.specs.Octets.{u16_at}
use Rattle.ip_wire.specs.Ipv6Packet.{address_at}
use Rattle.ip_address.specs.EthernetAddress.{is_same as is_same_hardware}
use Rattle.ip_address.specs.declared.cidr.IpCidr.{IpCidr}
use Rattle.ip_address.specs.declared.ethernet_address.EthernetAddress.{EthernetAddress}
use Rattle.ip_address.specs.declared.hardware.HardwareAddress.{HardwareAddress}
use Rattle.ip_address.specs.declared.ip.IpAddress.{IpAddress}
use Rattle.ip_address.specs.declared.ip.IpAddress.TheVariants.{Ipv4, Ipv6}
use Rattle.sockets.specs.Source.{is_same}
use Rattle.guard.specs.declared.guard.Guard.{Guard}
use Rattle.guard.specs.declared.guard.Reason.{Reason}
use Rattle.guard.specs.declared.guard.Reason.TheVariants as reason
use Rattle.guard.specs.declared.kind.Kind.{Kind}
use Rattle.guard.specs.declared.kind.Kind.TheVariants.{Arp, Packet, Other}
use Rattle.guard.specs.declared.kind.Sort.{Sort}
use Rattle.guard.specs.declared.kind.Sort.TheVariants.{Fragment, Loop, Transport, Plain}
use Rattle.guard.specs.declared.pins.Pinned.{Pinned}
use Rattle.guard.specs.Kind.{ipv4_at, is_loop, is_transport, kind_at, kind_of, kind_of_ipv6, message_of}
use Rattle.guard.specs.Kind.{octet_at, packet_of_ipv6, sort_of_ipv4, sort_of_ipv6}
use Rattle.guard.specs.Claim.{comes_back, hardware_at, is_from_host, tells_only}
use Rattle.guard.specs.Pins.{forbids, is_forbidden}
use Rattle.guard.specs.Guard.{first_of, is_ordinary, is_ordinary_sort, is_own, is_returned, is_stolen, reason_of, reason_of_kind}
use Rattle.guard.specs.Guard.{refusal_of, refusal_of_claim, refusal_of_packet}
use Rattle.guard.specs.Laws.{ArpPasses, LoopsEnd, OwnAddressesStay, PacketsPass, PinnedStay}

-- the one that three tests choose
chosen : {A : Type 0} (short arp ip : Bool) (a b c d : A) → short ≡ false → arp ≡ false → ip ≡ true →
    (if short then a else if arp then b else if ip then c else d) ≡ c
chosen short arp ip a b c d s r i = rw (s, r, i) refl

pub kind_is : (frame : List ℕ) → 42 ≤ length frame → u16_at frame 12 ≡ 0x0800 →
    kind_of frame ≡ Packet (ipv4_at frame 26) (sort_of_ipv4 frame)
kind_is frame long type =
    let s : nat_lt (length frame) 42 ≡ false = grind (arith, nat_tests) in
    let r : (u16_at frame 12 == 0x0806) ≡ false = rw type refl in
    let i : (u16_at frame 12 == 0x0800) ≡ true = rw type refl in
    chosen (nat_lt (length frame) 42) (u16_at frame 12 == 0x0806) (u16_at frame 12 == 0x0800) Other
    (Arp (ipv4_at frame 28)) (Packet (ipv4_at frame 26) (sort_of_ipv4 frame))
    (if u16_at frame 12 == 0x86dd then kind_of_ipv6 frame else Other) s r i

-- a message of the host, or one that claims nothing of it, isn't stolen
pub not_stolen : (keeps claimed mine : Bool) → (claimed ≡ false) ⊎ (mine ≡ true) → (keeps && claimed && not mine) ≡ false
not_stolen false claimed mine or = refl
not_stolen true false mine or = refl
not_stolen true true true or = refl
not_stolen true true false (inl e) = absurd cc
not_stolen true true false (inr e) = absurd cc

pub refused_by_none : (stolen : Bool) (other : Option Reason) (why : Reason) → stolen ≡ false → other ≡ None →
    first_of (if stolen then Some why else None) other ≡ None
refused_by_none stolen other why s o = rw (s, o) refl

pub packets_pass : PacketsPass
packets_pass a g long type free own =
    let sender = ipv4_at a.frame 26 in
    let refusal : refusal_of_packet sender (sort_of_ipv4 a.frame) a.hardware a.frame a.own g ≡ None =
    refused_by_none (is_stolen (is_own a.own sender) (comes_back a.hardware a.frame) g)
    (refusal_of (is_returned sender a.hardware a.frame a.own) (sort_of_ipv4 a.frame) g) reason.OwnSource
    (not_stolen g.keeps_own_addresses (is_own a.own sender) (comes_back a.hardware a.frame) own) free in
    rw (kind_is a.frame long type, refusal) refl

-- likewise an ARP packet
arp_is : (frame : List ℕ) → 42 ≤ length frame → u16_at frame 12 ≡ 0x0806 → kind_of frame ≡ Arp (ipv4_at frame 28)
arp_is frame long type =
    let s : nat_lt (length frame) 42 ≡ false = grind (arith, nat_tests) in
    let r : (u16_at frame 12 == 0x0806) ≡ true = rw type refl in
    rw (s, r) refl

pub arp_passes : ArpPasses
arp_passes a g long type own pinned =
    let sender = ipv4_at a.frame 28 in
    let none : (if is_forbidden sender a.frame g.pins then Some reason.Pinned else None) ≡ None = rw pinned refl in
    let refusal : refusal_of_claim (is_own a.own sender) sender a.hardware a.frame g ≡ None =
    refused_by_none (is_stolen (is_own a.own sender) (is_from_host a.hardware a.frame) g)
    (if is_forbidden sender a.frame g.pins then Some reason.Pinned else None) reason.OwnAddress
    (not_stolen g.keeps_own_addresses (is_own a.own sender) (is_from_host a.hardware a.frame) own) none in
    rw (arp_is a.frame long type, refusal) refl

pub stolen_by : (keeps claimed mine : Bool) → keeps ≡ true → claimed ≡ true → mine ≡ false → (other : Option Reason) (why : Reason) →
    first_of (if keeps && claimed && not mine then Some why else None) other ≡ Some why
stolen_by keeps claimed mine k c m other why = rw (k, c, m) refl

pub own_addresses_stay : OwnAddressesStay
own_addresses_stay a g keeps long type claimed other =
    let sender = ipv4_at a.frame 28 in
    let refusal : refusal_of_claim (is_own a.own sender) sender a.hardware a.frame g ≡ Some reason.OwnAddress =
    stolen_by g.keeps_own_addresses (is_own a.own sender) (is_from_host a.hardware a.frame) keeps claimed other
    (if is_forbidden sender a.frame g.pins then Some reason.Pinned else None) reason.OwnAddress in
    rw (arp_is a.frame long type, refusal) refl

-- an address is the same as itself
pub same_refl : (a : IpAddress) → is_same a a ≡ true
same_refl (Ipv4 x) = grind (arith, nat_tests)
same_refl (Ipv6 x) = grind (arith, nat_tests)

pub or_true : (a b : Bool) → b ≡ true → (a || b) ≡ true
or_true true b e = refl
or_true false b e = e

-- one entry forbids a frame, and so do all
pub any_forbids : (sender : IpAddress) (frame : List ℕ) (h : EthernetAddress) (pairs : List (Option Pinned)) (k : ℕ) →
    slice_get pairs k ≡ Some (Some (record { address = sender; hardware = h })) → tells_only h frame ≡ false →
    list_any (forbids sender frame) pairs ≡ true
any_forbids sender frame h [] k there other = absurd cc
any_forbids sender frame h (p ∷ ps) zero there other =
    let is : p ≡ Some (record { address = sender; hardware = h }) = cc in rw (is, same_refl sender, other) refl
any_forbids sender frame h (p ∷ ps) (suc k) there other =
    or_true (forbids sender frame p) (list_any (forbids sender frame) ps) (any_forbids sender frame h ps k there other)

-- an ARP packet tells the hardware address of its sender alone
pub tells_by_arp : (h : EthernetAddress) (frame : List ℕ) → 42 ≤ length frame → u16_at frame 12 ≡ 0x0806 →
    tells_only h frame ≡ is_same_hardware (hardware_at frame 22) h
tells_by_arp h frame long type =
    let s : nat_lt (length frame) 42 ≡ false = grind (arith, nat_tests) in
    let r : (u16_at frame 12 == 0x0806) ≡ true = rw type refl in
    rw (s, r) refl

pub pinned_by : (stolen forbidden : Bool) → forbidden ≡ true → (why : Reason) →
    (r : Reason) × (first_of (if stolen then Some why else None) (if forbidden then Some reason.Pinned else None) ≡ Some r)
pinned_by true forbidden f why = (why, refl)
pinned_by false forbidden f why = (reason.Pinned, rw f refl)

pub pinned_stay : PinnedStay
pinned_stay a g h k long type there other =
    let sender = ipv4_at a.frame 28 in
    let elsewhere : tells_only h a.frame ≡ false = tells_by_arp h a.frame long type ∙ other in
    let forbidden : is_forbidden sender a.frame g.pins ≡ true = any_forbids sender a.frame h g.pins.pairs k there elsewhere in
    let refusal = pinned_by (is_stolen (is_own a.own sender) (is_from_host a.hardware a.frame) g) (is_forbidden sender a.frame g.pins)
    forbidden reason.OwnAddress in
    rw (arp_is a.frame long type, refusal.1) refl

-- a datagram that goes to and fro is refused, by its source or as such
pub looping : (stolen drops returned : Bool) → drops ≡ true → returned ≡ false → (why : Reason) →
    (r : Reason) × (first_of (if stolen then Some why else None) (if drops && not returned then Some reason.Loop else None) ≡ Some r)
looping true drops returned d t why = (why, refl)
looping false drops returned d t why = (reason.Loop, rw (d, t) refl)

pub loops_end : LoopsEnd
loops_end a g drops long type sort returned =
    let sender = ipv4_at a.frame 26 in
    let refusal = looping (is_stolen (is_own a.own sender) (comes_back a.hardware a.frame) g) g.drops_loops
    (is_returned sender a.hardware a.frame a.own) drops returned reason.OwnSource in
    rw (kind_is a.frame long type, sort, refusal.1) refl

-- a datagram or a segment from another address than the host's
transport : (sender : IpAddress) (hardware : Option HardwareAddress) (frame : List ℕ) (own : List IpCidr) (g : Guard) →
    is_own own sender ≡ false → reason_of_kind (Packet sender Transport) hardware frame own g ≡ None
transport sender hardware frame own g free =
    refused_by_none (is_stolen (is_own own sender) (comes_back hardware frame) g) None reason.OwnSource
    (not_stolen g.keeps_own_addresses (is_own own sender) (comes_back hardware frame) (inl free)) refl

pub is_transport_sort : (s : Sort) → is_ordinary_sort s ≡ true → s ≡ Transport
is_transport_sort Fragment e = absurd cc
is_transport_sort Loop e = absurd cc
is_transport_sort Transport e = refl
is_transport_sort Plain e = absurd cc

pub both : (a b : Bool) → (a && b) ≡ true → (a ≡ true) × (b ≡ true)
both true true e = (refl, refl)
both true false e = absurd cc
both false b e = absurd cc

pub not_true : (a : Bool) → not a ≡ true → a ≡ false
not_true false e = refl
not_true true e = absurd cc

-- its protocol is UDP or TCP
pub by_protocol : (fragment loop transport : Bool) →
    (if fragment then Fragment else if loop then Loop else if transport then Transport else Plain) ≡ Transport → transport ≡ true
by_protocol true loop transport e = absurd cc
by_protocol false true transport e = absurd cc
by_protocol false false true e = refl
by_protocol false false false e = absurd cc

pub which : (p : ℕ) (tcp udp : Bool) → (p == 6) ≡ tcp → (p == 17) ≡ udp → (tcp || udp) ≡ true → (p ≡ 6) ⊎ (p ≡ 17)
which p true udp t u or = inl (grind (arith, nat_tests))
which p false true t u or = inr (grind (arith, nat_tests))
which p false false t u or = absurd cc

pub other_protocol : (p q : ℕ) → (p ≡ 6) ⊎ (p ≡ 17) → q ≢ 6 → q ≢ 17 → p ≢ q
other_protocol p q (inl e) six seventeen same = six (sym same ∙ e)
other_protocol p q (inr e) six seventeen same = seventeen (sym same ∙ e)

pub no_message : (p behind : ℕ) (len : ℕ) → p ≢ 58 → p ≢ 0 →
    (if p == 58 then Some 54 else if (p == 0) && (behind == 58) then Some len else None) ≡ None
no_message p behind len message options =
    let m : (p == 58) ≡ false = grind (arith, nat_tests) in
    let o : (p == 0) ≡ false = grind (arith, nat_tests) in
    rw (m, o) refl

chosen_v6 : {A : Type 0} (short arp ip six : Bool) (a b c d e : A) → short ≡ false → arp ≡ false → ip ≡ false → six ≡ true →
    (if short then a else if arp then b else if ip then c else if six then d else e) ≡ d
chosen_v6 short arp ip six a b c d e s r i x = rw (s, r, i, x) refl

pub kind_v6 : (frame : List ℕ) → 42 ≤ length frame → u16_at frame 12 ≡ 0x86dd → kind_of frame ≡ kind_of_ipv6 frame
kind_v6 frame long type =
    let s : nat_lt (length frame) 42 ≡ false = grind (arith, nat_tests) in
    let r : (u16_at frame 12 == 0x0806) ≡ false = rw type refl in
    let i : (u16_at frame 12 == 0x0800) ≡ false = rw type refl in
    let x : (u16_at frame 12 == 0x86dd) ≡ true = rw type refl in
    chosen_v6 (nat_lt (length frame) 42) (u16_at frame 12 == 0x0806) (u16_at frame 12 == 0x0800) (u16_at frame 12 == 0x86dd) Other
    (Arp (ipv4_at frame 28)) (Packet (ipv4_at frame 26) (sort_of_ipv4 frame)) (kind_of_ipv6 frame) Other s r i x

pub packet_v6 : (frame : List ℕ) (message : Option ℕ) (sort : Sort) → message ≡ None → sort ≡ Transport → sort_of_ipv6 frame ≡ sort →
    kind_at message (Ipv6 (address_at frame 22)) frame ≡ packet_of_ipv6 (Ipv6 (address_at frame 22)) frame Transport
packet_v6 frame message sort m t is = rw (m, is, t) refl

module _ (frame : List ℕ) (hardware : Option HardwareAddress) (own : List IpCidr) (g : Guard) where
  abbrev PassesAt : Kind → Type 0
  PassesAt kind = reason_of_kind kind hardware frame own g ≡ None

  ordinary_v4 : 42 ≤ length frame → u16_at frame 12 ≡ 0x0800 →
      (is_ordinary_sort (sort_of_ipv4 frame) && not (is_own own (ipv4_at frame 26))) ≡ true → PassesAt (kind_of frame)
  ordinary_v4 long type is =
      let parts = both (is_ordinary_sort (sort_of_ipv4 frame)) (not (is_own own (ipv4_at frame 26))) is in
      let sort = is_transport_sort (sort_of_ipv4 frame) parts.0 in
      rw (kind_is frame long type) (rw sort (transport (ipv4_at frame 26) hardware frame own g
      (not_true (is_own own (ipv4_at frame 26)) parts.1)))

  by_length : (short : Bool) (sender : IpAddress) → is_own own sender ≡ false → PassesAt (if short then Other else Packet sender Transport)
  by_length true sender free = refl
  by_length false sender free = transport sender hardware frame own g free

  ordinary_v6 : 42 ≤ length frame → u16_at frame 12 ≡ 0x86dd →
      (is_ordinary_sort (sort_of_ipv6 frame) && not (is_own own (Ipv6 (address_at frame 22)))) ≡ true → PassesAt (kind_of frame)
  ordinary_v6 long type is =
      let parts = both (is_ordinary_sort (sort_of_ipv6 frame)) (not (is_own own (Ipv6 (address_at frame 22)))) is in
      let sort = is_transport_sort (sort_of_ipv6 frame) parts.0 in
      let protocol = by_protocol (octet_at frame 20 == 44) ((octet_at frame 20 == 17) && is_loop frame 54) (is_transport (octet_at frame 20)) sort in
      let one = which (octet_at frame 20) (octet_at frame 20 == 6) (octet_at frame 20 == 17) refl refl protocol in
      let none : message_of frame ≡ None = no_message (octet_at frame 20) (octet_at frame 54) (62 + octet_at frame 55 * 8)
      (other_protocol (octet_at frame 20) 58 one (λ e. absurd cc) (λ e. absurd cc))
      (other_protocol (octet_at frame 20) 0 one (λ e. absurd cc) (λ e. absurd cc)) in
      let kind : kind_of frame ≡ packet_of_ipv6 (Ipv6 (address_at frame 22)) frame Transport =
      kind_v6 frame long type ∙ packet_v6 frame (message_of frame) (sort_of_ipv6 frame) none sort refl in
      rw kind (by_length (nat_lt (length frame) 54) (Ipv6 (address_at frame 22)) (not_true (is_own own (Ipv6 (address_at frame 22))) parts.1))

  ordinary : is_ordinary frame own ≡ true → PassesAt (kind_of frame)
  ordinary is = by (nat_lt (length frame) 42) (u16_at frame 12 == 0x0800) (u16_at frame 12 == 0x86dd) refl refl refl is where
    by : (short v4 v6 : Bool) → nat_lt (length frame) 42 ≡ short → (u16_at frame 12 == 0x0800) ≡ v4 → (u16_at frame 12 == 0x86dd) ≡ v6 →
        (if short then false
        else if v4 then is_ordinary_sort (sort_of_ipv4 frame) && not (is_own own (ipv4_at frame 26))
        else if v6 then is_ordinary_sort (sort_of_ipv6 frame) && not (is_own own (Ipv6 (address_at frame 22)))
        else false) ≡ true → PassesAt (kind_of frame)
    by true v4 v6 s four six e = absurd cc
    by false true v6 s four six e = ordinary_v4 (grind (arith, nat_tests)) (grind (arith, nat_tests)) e
    by false false true s four six e = ordinary_v6 (grind (arith, nat_tests)) (grind (arith, nat_tests)) e
    by false false false s four six e = absurd cc

-- an ordinary frame passes
pub ordinary_reason : (frame : List ℕ) (hardware : Option HardwareAddress) (own : List IpCidr) (g : Guard) →
    is_ordinary frame own ≡ true → None ≡ reason_of frame hardware own g
ordinary_reason frame hardware own g is = sym (ordinary frame hardware own g is)
