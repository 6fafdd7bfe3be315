-- What a guard promises over IPv6, whatever frames come.
use Rattle.std.specs.Prelude.{◌≡◌, ◌≢◌, ◌⊎◌, ℕ, true, false, slice_get, Some}
use Rattle.ip_address.specs.declared.ethernet_address.EthernetAddress.{EthernetAddress}
use Rattle.ip_address.specs.declared.hardware.HardwareAddress.TheVariants.{Ethernet}
use Rattle.guard.specs.declared.guard.Guard.{Guard}
use Rattle.guard.specs.Ipv6.{ClaimsOwn, GoesToAndFro, HasMessage, IsAmong, IsIpv6, IsNeighborMessage, IsSentBy, TellsNoOther, source_of}
use Rattle.guard.specs.Kind.{octet_at}
use Rattle.guard.specs.Laws.{Arrival, passes}

-- A neighbour message that claims an own address passes a guard that keeps these only if it comes from the own hardware address, and
-- tells no other
abbrev pub OwnMessagesStay : Type 0
OwnMessagesStay =
    (a : Arrival) (g : Guard) (own : EthernetAddress) (at : ℕ) → g.keeps_own_addresses ≡ true → a.hardware ≡ Some (Ethernet own) →
    IsNeighborMessage a.frame at → ClaimsOwn a.own a.frame at → passes a g ≡ true → IsSentBy own a.frame × TellsNoOther own a.frame at

-- One of a pinned neighbour passes only if it tells no other hardware address than the one that the neighbour is pinned to
abbrev pub PinnedMessagesStay : Type 0
PinnedMessagesStay =
    (a : Arrival) (g : Guard) (h : EthernetAddress) (k at : ℕ) → IsNeighborMessage a.frame at →
    slice_get g.pins.pairs k ≡ Some (Some (record { address = source_of a.frame; hardware = h })) → passes a g ≡ true →
    TellsNoOther h a.frame at

-- One passes, from whomever and however often it comes, if it claims no own address, and tells no other hardware address than the one
-- that its sender is pinned to, if it is
abbrev pub MessagesPass : Type 0
MessagesPass =
    (a : Arrival) (g : Guard) (at : ℕ) → IsNeighborMessage a.frame at → (ClaimsOwn a.own a.frame at → ⊥) →
    ((k : ℕ) (h : EthernetAddress) → slice_get g.pins.pairs k ≡ Some (Some (record { address = source_of a.frame; hardware = h })) →
    TellsNoOther h a.frame at) → passes a g ≡ true

-- Any other message of ICMPv6 passes, from whomever and however often it comes, if its source is no own address: advertisements of
-- routers (RFC 4861 4.2), queries and reports of MLD (RFC 3810), errors and echoes
abbrev pub OtherMessagesPass : Type 0
OtherMessagesPass =
    (a : Arrival) (g : Guard) (at : ℕ) → IsIpv6 a.frame → HasMessage a.frame at → octet_at a.frame at ≢ 135 → octet_at a.frame at ≢ 136 →
    (IsAmong a.own (source_of a.frame) → ⊥) → passes a g ≡ true

-- A segment of TCP passes, if its source is no own address; and a datagram of UDP that doesn't go to and fro
abbrev pub StreamsPass : Type 0
StreamsPass =
    (a : Arrival) (g : Guard) → IsIpv6 a.frame → (octet_at a.frame 20 ≡ 6) ⊎ (octet_at a.frame 20 ≡ 17) → (GoesToAndFro a.frame → ⊥) →
    (IsAmong a.own (source_of a.frame) → ⊥) → passes a g ≡ true

-- A datagram that could go to and fro for ever doesn't pass a guard that drops these, if its source is no own address
abbrev pub Ipv6LoopsEnd : Type 0
Ipv6LoopsEnd =
    (a : Arrival) (g : Guard) → g.drops_loops ≡ true → IsIpv6 a.frame → GoesToAndFro a.frame → (IsAmong a.own (source_of a.frame) → ⊥) →
    passes a g ≡ false
