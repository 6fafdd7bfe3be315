-- What is learnt by ARP was told by the frame, and the guard reads the same octets.
use Rattle.std.proofs.Common.{◌≡◌, ◌≤◌, ◌∙◌, ap, sym, ℕ, pos, Bool, true, false, refl, inl, inr, arith, List, [], ◌∷◌, length, take, drop}
use Rattle.std.specs.Prelude.{◌&&◌, ◌==◌, get_or, is_none, slice_get, Option, Some, None, if◌then◌else◌}
use Rattle.std.proofs.lemmas.Bool.Decides.{nat_tests}
use Rattle.std.proofs.lemmas.Slice.Eq.{bytes_eq-Decides}
use Rattle.std.proofs.lemmas.List.{drop-drop, get_or-drop, length-drop}
use Rattle.ip_wire.specs.Octets.{u16_at}
use Rattle.ip_address.specs.EthernetAddress.{is_same}
use Rattle.ip_address.specs.declared.ethernet_address.EthernetAddress.{EthernetAddress}
use Rattle.ip_address.specs.declared.hardware.HardwareAddress.TheVariants.{Ethernet}
use Rattle.ip_address.specs.declared.ip.IpAddress.{IpAddress}
use Rattle.ip_address.specs.declared.ip.IpAddress.TheVariants.{Ipv4}
use Rattle.ip_address.specs.declared.ipv4.Ipv4Address.{Ipv4Address}
use Rattle.ip_wire.specs.Arp.{arp_in}
use Rattle.ip_wire.specs.Ethernet.{address_at, header_in}
use Rattle.ip_wire.specs.declared.ethernet.EthernetProtocol.TheVariants as protocol
use Rattle.iface_tables.specs.declared.neighbor.Neighbor.{Neighbor}
use Rattle.host_machine.specs.Interface.Config.{if_ethernet}
use Rattle.host_machine.specs.Context.Host.{Host}
use Rattle.host_laws.specs.Laws.Restraint.Neighbors.{CameToBeKnown, TellsByArp, TellsByMessage, WasKnown, WasRenewed, WasTold}
use Rattle.host_laws.proofs.Discovery.LearntNeighbors.{neighbors_came}
use Rattle.guard.proofs.PassLemmas.{own_addresses_stay, pinned_stay, tells_by_arp}
use Rattle.guard.specs.Claim.{hardware_at, is_from, is_from_host, tells_only}
use Rattle.guard.specs.Guard.{first_of, is_own, reason_of, refusal_of_echo}
use Rattle.guard.specs.declared.guard.Reason.{Reason}
use Rattle.guard.specs.Kind.{ipv4_at}
use Rattle.guard.specs.Laws.{Arrival, passes}
use Rattle.guard.specs.Watch.{admits}
use Rattle.guard.specs.declared.watch.Watch.{Watch}
use Rattle.guard_laws.specs.Claims.{IsKnownOnlyAt, NobodyClaimsAnOwnAddress, PinnedNeighborsStay}

-- the first six of some octets, one by one
six : (octets : List ℕ) → 6 ≤ length octets →
    take 6 octets ≡ get_or octets 0 0 ∷ get_or octets 1 0 ∷ get_or octets 2 0 ∷ get_or octets 3 0 ∷ get_or octets 4 0 ∷ get_or octets 5 0 ∷ []
six [] l = absurd (omega (arith, l))
six (a ∷ []) l = absurd (omega (arith, l))
six (a ∷ b ∷ []) l = absurd (omega (arith, l))
six (a ∷ b ∷ c ∷ []) l = absurd (omega (arith, l))
six (a ∷ b ∷ c ∷ d ∷ []) l = absurd (omega (arith, l))
six (a ∷ b ∷ c ∷ d ∷ e ∷ []) l = absurd (omega (arith, l))
six (a ∷ b ∷ c ∷ d ∷ e ∷ f ∷ rest) l = refl

-- the sender's hardware address of an ARP packet in a frame
hardware_in : (frame : List ℕ) → 42 ≤ length frame → address_at (drop 14 frame) 8 ≡ hardware_at frame 22
hardware_in frame long =
    let rest : 6 ≤ length (drop 22 frame) = omega (arith, long, length-drop 22 frame) in
    let octets : take 6 (drop 8 (drop 14 frame)) ≡ (hardware_at frame 22).0 =
    ap (take 6) (drop-drop 8 14 frame) ∙ six (drop 22 frame) rest
    ∙ rw (
      get_or-drop 22 frame 0 0,
      get_or-drop 22 frame 1 0,
      get_or-drop 22 frame 2 0,
      get_or-drop 22 frame 3 0,
      get_or-drop 22 frame 4 0,
      get_or-drop 22 frame 5 0,
    ) refl in
    ap (λ (o : List ℕ). record { 0 = o }) octets

-- its IPv4 address
pub sender_in : (frame : List ℕ) → Ipv4 (arp_in (drop 14 frame)).source_protocol_addr ≡ ipv4_at frame 28
sender_in frame =
    rw (get_or-drop 14 frame 14 0, get_or-drop 14 frame 15 0, get_or-drop 14 frame 16 0, get_or-drop 14 frame 17 0) refl

-- the type number of ARP
type_in : (four arp six : Bool) (n : ℕ) → (n == 0x0800) ≡ four → (n == 0x0806) ≡ arp → (n == 0x86dd) ≡ six →
    (if four then protocol.Ipv4 else if arp then protocol.Arp else if six then protocol.Ipv6 else protocol.Unknown n) ≡ protocol.Arp → n ≡ 0x0806
type_in true arp six n f a s e = absurd cc
type_in false true six n f a s e = grind (arith, nat_tests)
type_in false false true n f a s e = absurd cc
type_in false false false n f a s e = absurd cc

pub type_number : (frame : List ℕ) → (header_in frame).ethertype ≡ protocol.Arp → u16_at frame 12 ≡ 0x0806
type_number frame e = type_in (u16_at frame 12 == 0x0800) (u16_at frame 12 == 0x0806) (u16_at frame 12 == 0x86dd) (u16_at frame 12) refl refl refl e

pub long_enough : (frame : List ℕ) → 28 ≤ length (drop 14 frame) → 42 ≤ length frame
long_enough frame l = omega (arith, l, length-drop 14 frame)

-- two addresses of the same octets
same_hardware : (a b : EthernetAddress) → is_same a b ≡ true → a ≡ b
same_hardware a b e = ap (λ (o : List ℕ). record { 0 = o }) ((bytes_eq-Decides a.0 b.0).0 e)

right : (a b : Bool) → (a && b) ≡ true → b ≡ true
right true b e = e
right false b e = absurd cc

-- the frame as it comes to the guard
abbrev pub arrival : ℕ → List ℕ → Host → Arrival
arrival at frame H = record {
  at = at;
  frame = frame;
  hardware = if_ethernet H.hardware_addr;
  own = H.ip_addrs;
}

-- where there is neither of two reasons, there isn't the first
first_is_none : (why other : Option Reason) → is_none (first_of why other) ≡ true → is_none why ≡ true
first_is_none None other e = refl
first_is_none (Some why) other e = absurd cc

pub passes_on : (at : ℕ) (frame : List ℕ) (w : Watch) (H : Host) → w.is_on ≡ true →
    admits (pos at) frame (if_ethernet H.hardware_addr) H.ip_addrs w ≡ true → passes (arrival at frame H) w.guard ≡ true
passes_on at frame w H on admitted =
    first_is_none (reason_of frame (if_ethernet H.hardware_addr) H.ip_addrs w.guard) (refusal_of_echo (pos at) frame w.guard) (rw on at admitted)

-- a test that is false can't be true
differ : (b : Bool) → b ≡ true → b ≡ false → ⊥
differ b t f = absurd cc

-- what an admitted ARP packet tells of an own address is the own hardware address
own_by_arp : (at : ℕ) (frame : List ℕ) (w : Watch) (H : Host) (a : Ipv4Address) (own h : EthernetAddress) →
    passes (arrival at frame H) w.guard ≡ true → w.guard.keeps_own_addresses ≡ true → H.hardware_addr ≡ Ethernet own →
    is_own H.ip_addrs (Ipv4 a) ≡ true → TellsByArp H frame (Ipv4 a) h → h ≡ own
own_by_arp at frame w H a own h pass keeps hardware mine told = by (is_from_host (Some (Ethernet own)) frame) refl where
  long : 42 ≤ length frame
  long = long_enough frame told.is_packet.whole

  type : u16_at frame 12 ≡ 0x0806
  type = type_number frame told.type

  sender : is_own H.ip_addrs (ipv4_at frame 28) ≡ true
  sender = ap (is_own H.ip_addrs) (sym (told.address_is ∙ sender_in frame)) ∙ mine

  by : (b : Bool) → is_from_host (Some (Ethernet own)) frame ≡ b → h ≡ own
  by false e =
      let other : is_from_host (if_ethernet H.hardware_addr) frame ≡ false = rw hardware e in
      absurd (differ (passes (arrival at frame H) w.guard) pass (own_addresses_stay (arrival at frame H) w.guard keeps long type sender other))
  by true e =
      let tells : tells_only own frame ≡ true = right (is_from own frame) (tells_only own frame) e in
      told.hardware_is ∙ hardware_in frame long ∙ same_hardware (hardware_at frame 22) own (sym (tells_by_arp own frame long type) ∙ tells)

-- and of a pinned address the pinned one
pinned_by_arp : (at : ℕ) (frame : List ℕ) (w : Watch) (H : Host) (a : Ipv4Address) (h told_one : EthernetAddress) (k : ℕ) →
    passes (arrival at frame H) w.guard ≡ true → slice_get w.guard.pins.pairs k ≡ Some (Some (record { address = Ipv4 a; hardware = h })) →
    TellsByArp H frame (Ipv4 a) told_one → told_one ≡ h
pinned_by_arp at frame w H a h told_one k pass there told = by (is_same (hardware_at frame 22) h) refl where
  long : 42 ≤ length frame
  long = long_enough frame told.is_packet.whole

  type : u16_at frame 12 ≡ 0x0806
  type = type_number frame told.type

  sender : slice_get w.guard.pins.pairs k ≡ Some (Some (record { address = ipv4_at frame 28; hardware = h }))
  sender = there ∙ ap (λ (x : IpAddress). Some (Some (record { address = x; hardware = h }))) (told.address_is ∙ sender_in frame)

  by : (b : Bool) → is_same (hardware_at frame 22) h ≡ b → told_one ≡ h
  by false e = absurd (differ (passes (arrival at frame H) w.guard) pass (pinned_stay (arrival at frame H) w.guard h k long type sender e))
  by true e = told.hardware_is ∙ hardware_in frame long ∙ same_hardware (hardware_at frame 22) h e

-- an IPv4 address is none of IPv6
no_message : (H : Host) (frame : List ℕ) (a : Ipv4Address) (h : EthernetAddress) → TellsByMessage H frame (Ipv4 a) h → ⊥
no_message H frame a h told = let e = told.address_is in absurd cc

-- so is whoever came to be known, by whatever an ARP packet tells
known_at : (at : ℕ) (frame : List ℕ) (old : Host) (a : Ipv4Address) (h : EthernetAddress) →
    ((own told : EthernetAddress) → old.hardware_addr ≡ Ethernet own → TellsByArp old frame (Ipv4 a) told → told ≡ h) →
    IsKnownOnlyAt old (Ipv4 a) h → (n : Neighbor) → CameToBeKnown (pos at) frame old (Ipv4 a) n → n.hardware_addr ≡ Ethernet h
known_at at frame old a h by_arp before n (WasKnown there) = before n there
known_at at frame old a h by_arp before n (WasRenewed was there is from) =
    ap (λ (x : Neighbor). x.hardware_addr) is ∙ before was there
known_at at frame old a h by_arp before n (WasTold own told hardware is (inl arp)) =
    ap (λ (x : Neighbor). x.hardware_addr) is ∙ ap Ethernet (by_arp own told hardware arp)
known_at at frame old a h by_arp before n (WasTold own told hardware is (inr message)) = absurd (no_message old frame a told message)

pub nobody_claims_an_own_address : NobodyClaimsAnOwnAddress
nobody_claims_an_own_address at frame w old new told notes a own receives keeps hardware mine before n there =
    let pass : passes (arrival at frame old) w.guard ≡ true = passes_on at frame w old receives.is_on receives.admitted in
    known_at at frame old a own (λ other h is arp. own_by_arp at frame w old a own h pass keeps hardware mine arp) before n
    (neighbors_came (pos at) frame old new told notes receives.receives (Ipv4 a) n there)

pub pinned_neighbors_stay : PinnedNeighborsStay
pinned_neighbors_stay at frame w old new told notes a h k receives pinned before n there =
    let pass : passes (arrival at frame old) w.guard ≡ true = passes_on at frame w old receives.is_on receives.admitted in
    known_at at frame old a h (λ own other is arp. pinned_by_arp at frame w old a h other k pass pinned arp) before n
    (neighbors_came (pos at) frame old new told notes receives.receives (Ipv4 a) n there)
