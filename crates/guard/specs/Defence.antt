-- The defence of an own IPv4 address (RFC 5227 2.4 c).
use Rattle.std.specs.Prelude.{ℕ, ℤ, ◌+◌, ◌==◌, ◌||◌, ◌&&◌, not, nat_lt, nat_le, Bool, true, List, [], ◌∷◌, length, slice_index_or, Option, Some, None, if◌then◌else◌}
use Rattle.std.specs.Int.{to_be_bytes, w32}
use Rattle.ip_wire.specs.Octets.{u16_at, u32_at}
use Rattle.ip_address.specs.declared.ethernet_address.EthernetAddress.{EthernetAddress}
use Rattle.ip_address.specs.declared.hardware.HardwareAddress.{HardwareAddress}
use Rattle.ip_address.specs.declared.hardware.HardwareAddress.TheVariants.{Ethernet, Ip}
use Rattle.ip_address.specs.declared.ipv4.Ipv4Address.{Ipv4Address}
use Rattle.guard.specs.declared.defence.Defence.{Defence}
use Rattle.guard.specs.Guard.{is_ahead, micros}

-- the address of the sender of an ARP packet: octets 28 to 31 of the frame (RFC 826)
abbrev pub claimed_in : List ℕ → Option Ipv4Address
claimed_in frame =
    if nat_lt (length frame) 42 || not (u16_at frame 12 == 0x0806) then None else Some (record { bits = u32_at frame 28 })

-- the interval has passed since the last one, or the clock has gone back
abbrev pub has_passed : ℤ → (interval : ℕ) → Option ℕ → Bool
has_passed now interval None = true
has_passed now interval (Some last) = nat_le (last + interval) (micros now) || is_ahead (micros now) last

-- a claim would be answered; an interval of 0 defends nothing
abbrev pub is_due : ℤ → Defence → Bool
is_due now d = not (d.interval == 0) && has_passed now d.interval d.last

abbrev pub after_claim_of : ℤ → Option Ipv4Address → Defence → Defence
after_claim_of now None d = d
after_claim_of now (Some a) d = if is_due now d then record d { last = Some (micros now); owed = Some a } else d

abbrev pub after_claim : ℤ → List ℕ → Defence → Defence
after_claim now frame d = after_claim_of now (claimed_in frame) d

abbrev pub after_taking : Defence → Defence
after_taking d = record d { owed = None }

abbrev pub no_defence : Defence
no_defence = record { interval = 0; last = None; owed = None }

-- the first four octets of some, or six, before others
abbrev pub first_four : List ℕ → List ℕ → List ℕ
first_four o rest = slice_index_or o 0 0 ∷ slice_index_or o 1 0 ∷ slice_index_or o 2 0 ∷ slice_index_or o 3 0 ∷ rest

abbrev pub first_six : List ℕ → List ℕ → List ℕ
first_six o rest = first_four o (slice_index_or o 4 0 ∷ slice_index_or o 5 0 ∷ rest)

-- a broadcast frame of ARP (RFC 894): Ethernet and IPv4, a request (RFC 826), from an address and for it
abbrev pub announcement_of : (hardware address : List ℕ) → List ℕ
announcement_of h a =
    255 ∷ 255 ∷ 255 ∷ 255 ∷ 255 ∷ 255 ∷ first_six h (8 ∷ 6 ∷ 0 ∷ 1 ∷ 8 ∷ 0 ∷ 6 ∷ 4 ∷ 0 ∷ 1
    ∷ first_six h (first_four a (0 ∷ 0 ∷ 0 ∷ 0 ∷ 0 ∷ 0 ∷ first_four a [])))

abbrev pub announcement : EthernetAddress → Ipv4Address → List ℕ
announcement h a = announcement_of h.0 (to_be_bytes w32 a.bits)

-- the frame that announces what is owed, on Ethernet
abbrev pub announced : Option HardwareAddress → Option Ipv4Address → Option (List ℕ)
announced hardware None = None
announced None (Some address) = None
announced (Some Ip) (Some address) = None
announced (Some (Ethernet own)) (Some address) = Some (announcement own address)
