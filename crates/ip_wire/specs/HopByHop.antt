-- The hop-by-hop options of IPv6 (RFC 8200 4.2, 4.3), and the Router Alert option (RFC 2711 2.1).
use Rattle.std.specs.Prelude.{◌≡◌, ℕ, zero, suc, ◌+◌, ◌-◌, ◌*◌, ◌/◌, ◌%◌, ◌^◌, ◌<◌, ◌≤◌, ◌==◌, ◌&&◌, List, [], ◌∷◌}
use Rattle.std.specs.Prelude.{◌++◌, length, drop, slice_index, slice_range, replicate, if◌then◌else◌}
use Rattle.std.specs.Borrow.{Bor}
use Rattle.std.specs.Int.{w16, to_be_bytes}
use Rattle.std.specs.List.{flat_map, All}
use Rattle.ip_wire.specs.Octets.{u16_at}
use Rattle.ip_address.specs.Protocol.{protocol_of, number_of}
use Rattle.ip_wire.specs.declared.hop_by_hop.Ipv6OptionFailureType.{Ipv6OptionFailureType}
use Rattle.ip_wire.specs.declared.hop_by_hop.Ipv6OptionFailureType.TheVariants.{Skip, Discard, DiscardSendAll}
use Rattle.ip_wire.specs.declared.hop_by_hop.Ipv6OptionFailureType.TheVariants.{DiscardSendUnicast}
use Rattle.ip_wire.specs.declared.hop_by_hop.Ipv6OptionRepr.{Ipv6OptionRepr}
use Rattle.ip_wire.specs.declared.hop_by_hop.Ipv6OptionRepr.TheVariants.{Pad1, PadN, RouterAlert, Unknown}
use Rattle.ip_wire.specs.declared.hop_by_hop.Ipv6HopByHopRepr.{Ipv6HopByHopRepr}

-- the length of the first option: Pad1 is one octet, any other has type, length and data
abbrev pub option_len : List ℕ → ℕ
option_len octets = if slice_index octets 0 == 0 then 1 else 2 + slice_index octets 1

-- the first option isn't cut off: the last of its octets is there (a missing length counts as 0, so that a
-- bare type is cut off)
abbrev pub IsOption : List ℕ → Type 0
IsOption octets = option_len octets ≤ length octets

-- an option by its type and its length; a Router Alert has length 2
abbrev pub option_of : ℕ → ℕ → ℕ → Ipv6OptionRepr
option_of type len value =
    if type == 0 then Pad1 else if type == 1 then PadN len else
    if type == 5 && len == 2 then RouterAlert value else Unknown type len

abbrev pub option_in : List ℕ → Ipv6OptionRepr
option_in octets = option_of (slice_index octets 0) (slice_index octets 1) (u16_at octets 2)

-- the first option, and what follows it
abbrev pub first_option : List ℕ → Ipv6OptionRepr × List ℕ
first_option octets = (option_in octets, drop (option_len octets) octets)

-- values and octets, apart from where those are in memory
abbrev pub option_parts : Ipv6OptionRepr × Bor (List ℕ) → Ipv6OptionRepr × List ℕ
option_parts p = (p.0, p.1.now)

-- the first options, at most n; there are fewer if the octets end
unfoldable pub options_in : ℕ → List ℕ → List Ipv6OptionRepr
options_in zero octets = []
options_in (suc n) [] = []
options_in (suc n) (x ∷ xs) = option_in (x ∷ xs) ∷ options_in n (drop (option_len (x ∷ xs)) (x ∷ xs))

-- none of the first n options is cut off
unfoldable pub AreOptions : ℕ → List ℕ → Type 0
AreOptions zero octets = Unit
AreOptions (suc n) [] = Unit
AreOptions (suc n) (x ∷ xs) = IsOption (x ∷ xs) × AreOptions n (drop (option_len (x ∷ xs)) (x ∷ xs))

-- a header's length is counted in units of eight octets, without the first
abbrev pub header_len : List ℕ → ℕ
header_len octets = 8 * slice_index octets 1 + 8

-- its options follow next header and length
abbrev pub options_part : List ℕ → List ℕ
options_part octets = slice_range octets 2 (header_len octets)

-- the octets begin with a header, whose first four options end in it
pub record IsHopByHop (octets : List ℕ) : Type 0 where
  pub whole : 8 ≤ length octets
  pub fits : header_len octets ≤ length octets
  pub options : AreOptions 4 (options_part octets)

-- its values, and what follows it
abbrev pub hop_by_hop_in : List ℕ → Ipv6HopByHopRepr × List ℕ
hop_by_hop_in octets = (
  record {
    next_header = protocol_of (slice_index octets 0);
    options = record { items = options_in 4 (options_part octets) };
  },
  drop (header_len octets) octets,
)

abbrev pub parts : Ipv6HopByHopRepr × Bor (List ℕ) → Ipv6HopByHopRepr × List ℕ
parts p = (p.0, p.1.now)

-- how a packet with an option of an unrecognized type is treated, by the two highest bits
abbrev pub failure_by : ℕ → Ipv6OptionFailureType
failure_by bits = if bits == 0 then Skip else if bits == 1 then Discard else
    if bits == 2 then DiscardSendAll else DiscardSendUnicast

-- a known option is skipped
abbrev pub failure_of : Ipv6OptionRepr → Ipv6OptionFailureType
failure_of Pad1 = Skip
failure_of (PadN len) = Skip
failure_of (RouterAlert value) = Skip
failure_of (Unknown type len) = failure_by (type / 64)

-- the first of two that isn't `Skip`
abbrev pub or_else : Ipv6OptionFailureType → Ipv6OptionFailureType → Ipv6OptionFailureType
or_else Skip later = later
or_else Discard later = Discard
or_else DiscardSendAll later = DiscardSendAll
or_else DiscardSendUnicast later = DiscardSendUnicast

-- what the first option asks for that isn't skipped
unfoldable pub first_failure : List Ipv6OptionRepr → Ipv6OptionFailureType
first_failure [] = Skip
first_failure (option ∷ options) = or_else (failure_of option) (first_failure options)

-- the text of an option; data that wasn't kept is 0
unfoldable pub option_text : Ipv6OptionRepr → List ℕ
option_text Pad1 = 0 ∷ []
option_text (PadN len) = 1 ∷ len ∷ replicate len 0
option_text (RouterAlert value) = 5 ∷ 2 ∷ to_be_bytes w16 value
option_text (Unknown type len) = type ∷ len ∷ replicate len 0

-- a header's options, one after another
abbrev pub option_texts : Ipv6HopByHopRepr → List ℕ
option_texts r = flat_map option_text r.options.items

-- the length of a header, in octets
abbrev pub text_len : Ipv6HopByHopRepr → ℕ
text_len r = 2 + length (option_texts r)

-- the text of a header; its length is counted in units of eight octets, without the first
abbrev pub text : Ipv6HopByHopRepr → List ℕ
text r = number_of r.next_header ∷ (text_len r / 8 - 1) ∷ option_texts r

-- values that an option can have: an unknown one doesn't have the type and length of a known one
abbrev pub IsSomeOption : Ipv6OptionRepr → Type 0
IsSomeOption Pad1 = Unit
IsSomeOption (PadN len) = Unit
IsSomeOption (RouterAlert value) = value < 2 ^ 16
IsSomeOption (Unknown type len) = (value : ℕ) → option_of type len value ≡ Unknown type len

-- values that a header can have
pub record IsHeader (r : Ipv6HopByHopRepr) : Type 0 where
  pub protocol : protocol_of (number_of r.next_header) ≡ r.next_header
  pub few : length r.options.items ≤ 4
  pub options : All IsSomeOption r.options.items
  pub padded : text_len r % 8 ≡ 0

-- a text is parsed back as its values, and what follows it as that
abbrev pub ReadAgain : Type 0
ReadAgain = (r : Ipv6HopByHopRepr) (more : List ℕ) →
    IsHeader r → IsHopByHop (text r ++ more) × (hop_by_hop_in (text r ++ more) ≡ (r, more))
