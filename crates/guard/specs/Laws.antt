-- What a guard promises, whatever frames come.
use Rattle.std.specs.Prelude.{◌≡◌, ℕ, suc, ◌+◌, ◌-◌, ◌*◌, max, ◌≤◌, ◌&&◌, Bool, true, false, pos, List, [], ◌∷◌, is_none, ◌≢◌, ◌<◌, ◌⊎◌, length, Option, slice_get, Some, None, if◌then◌else◌}
use Rattle.ip_address.specs.EthernetAddress.{is_same as is_same_hardware}
use Rattle.ip_address.specs.declared.cidr.IpCidr.{IpCidr}
use Rattle.ip_address.specs.declared.ethernet_address.EthernetAddress.{EthernetAddress}
use Rattle.ip_address.specs.declared.hardware.HardwareAddress.{HardwareAddress}
use Rattle.guard.specs.declared.guard.Guard.{Guard}
use Rattle.guard.specs.Defence.{after_claim_of, after_taking, is_due}
use Rattle.guard.specs.declared.defence.Defence.{Defence}
use Rattle.ip_address.specs.declared.ipv4.Ipv4Address.{Ipv4Address}
use Rattle.guard.specs.declared.kind.Sort.TheVariants.{Loop}
use Rattle.ip_wire.specs.Octets.{u16_at}
use Rattle.guard.specs.Kind.{ipv4_at, is_echo, sort_of_ipv4}
use Rattle.guard.specs.Claim.{comes_back, hardware_at, is_from_host}
use Rattle.guard.specs.Pins.{is_forbidden}
use Rattle.guard.specs.Guard.{reason_of, is_returned, refusal_of, is_own}
use Rattle.guard.specs.Watch.{admits, after_arrival}
use Rattle.guard.specs.declared.watch.Watch.{Watch}

-- a frame that comes to a host: when, with what octets, and what hardware address and addresses the host has then
pub record Arrival : Type 0 where
  pub at : ℕ
  pub frame : List ℕ
  pub hardware : Option HardwareAddress
  pub own : List IpCidr

abbrev pub passes : Arrival → Guard → Bool
passes a g = is_none (reason_of a.frame a.hardware a.own g)

-- A claim of an own address is answered, unless one was within the interval; the next claims within the interval are not, if the clock
-- goes back by no more than a minute
abbrev pub DefencesAreApart : Type 0
DefencesAreApart =
    (first second : ℕ) (a b : Ipv4Address) (d : Defence) → is_due (pos first) d ≡ true → first ≤ second + 60000000 →
    second < first + d.interval →
    ((after_claim_of (pos first) (Some a) d).owed ≡ Some a)
    × (after_claim_of (pos second) (Some b) (after_taking (after_claim_of (pos first) (Some a) d))
    ≡ after_taking (after_claim_of (pos first) (Some a) d))

-- A frame that is neither an ARP packet nor an IP packet passes
abbrev pub OthersPass : Type 0
OthersPass =
    (a : Arrival) (g : Guard) → u16_at a.frame 12 ≢ 0x0806 → u16_at a.frame 12 ≢ 0x0800 → u16_at a.frame 12 ≢ 0x86dd → passes a g ≡ true

-- A packet of IPv4 that is of no sort which the guard drops passes, from whomever and however often it comes, if its source isn't an
-- own address, or it comes from the own hardware address
abbrev pub PacketsPass : Type 0
PacketsPass =
    (a : Arrival) (g : Guard) → 42 ≤ length a.frame → u16_at a.frame 12 ≡ 0x0800 →
    refusal_of (is_returned (ipv4_at a.frame 26) a.hardware a.frame a.own) (sort_of_ipv4 a.frame) g ≡ None →
    (is_own a.own (ipv4_at a.frame 26) ≡ false) ⊎ (comes_back a.hardware a.frame ≡ true) → passes a g ≡ true

-- An ARP packet passes, from whomever and however often it comes, if it claims neither an own address, but from the own hardware
-- address, nor a pinned one from another than that one's
abbrev pub ArpPasses : Type 0
ArpPasses =
    (a : Arrival) (g : Guard) → 42 ≤ length a.frame → u16_at a.frame 12 ≡ 0x0806 →
    (is_own a.own (ipv4_at a.frame 28) ≡ false) ⊎ (is_from_host a.hardware a.frame ≡ true) →
    is_forbidden (ipv4_at a.frame 28) a.frame g.pins ≡ false → passes a g ≡ true

-- An ARP packet that claims an own address doesn't pass a guard that keeps these, unless it comes from the own hardware address and
-- tells that one
abbrev pub OwnAddressesStay : Type 0
OwnAddressesStay =
    (a : Arrival) (g : Guard) → g.keeps_own_addresses ≡ true → 42 ≤ length a.frame → u16_at a.frame 12 ≡ 0x0806 → is_own a.own (ipv4_at a.frame 28) ≡ true →
    is_from_host a.hardware a.frame ≡ false → passes a g ≡ false

-- An ARP packet of a pinned neighbour doesn't pass, unless it tells the hardware address that the neighbour is pinned to
abbrev pub PinnedStay : Type 0
PinnedStay =
    (a : Arrival) (g : Guard) (h : EthernetAddress) (k : ℕ) → 42 ≤ length a.frame → u16_at a.frame 12 ≡ 0x0806 →
    slice_get g.pins.pairs k ≡ Some (Some (record { address = ipv4_at a.frame 28; hardware = h })) →
    is_same_hardware (hardware_at a.frame 22) h ≡ false → passes a g ≡ false

-- A datagram of IPv4 that could go to and fro for ever doesn't pass a guard that drops these, unless the host itself sent it
abbrev pub LoopsEnd : Type 0
LoopsEnd =
    (a : Arrival) (g : Guard) → g.drops_loops ≡ true → 42 ≤ length a.frame → u16_at a.frame 12 ≡ 0x0800 →
    sort_of_ipv4 a.frame ≡ Loop → is_returned (ipv4_at a.frame 26) a.hardware a.frame a.own ≡ false → passes a g ≡ false

-- the guard after a frame arrived
abbrev pub after_it : Arrival → Watch → Watch
after_it a w = after_arrival (pos a.at) a.frame a.hardware a.own w

-- how many of some frames, one after another, have an echo request or are fragments of ICMP, and pass
abbrev pub echoes_seen : Watch → List Arrival → ℕ
echoes_seen w [] = 0
echoes_seen w (a ∷ later) =
    if is_echo a.frame && admits (pos a.at) a.frame a.hardware a.own w then suc (echoes_seen (after_it a w) later)
    else echoes_seen (after_it a w) later

-- all are from a first instant to a last one, and none is more than a minute before the latest that came before it
abbrev pub AreWithin : (first latest last : ℕ) → List Arrival → Type 0
AreWithin first latest last [] = Unit {0}
AreWithin first latest last (a ∷ later) =
    (first ≤ a.at) × (a.at ≤ last) × (latest ≤ a.at + 60000000) × AreWithin first (max latest a.at) last later

-- Of echo requests and of fragments of ICMP so many pass a guard in a time, if the clock goes back by no more than a minute: as many as
-- their rate's depth, and one for each of its intervals
abbrev pub FewEchoesPass : Type 0
FewEchoesPass =
    (w : Watch) (first last : ℕ) (arrived : List Arrival) → w.is_on ≡ true → first ≤ last → AreWithin first first last arrived →
    echoes_seen w arrived * w.guard.echo_requests.interval
    ≤ (last - first) + w.guard.echo_requests.depth * w.guard.echo_requests.interval
