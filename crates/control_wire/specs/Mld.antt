-- MLD (RFC 3810 5.1, 5.2): type, code, checksum, 4 octets; in a query the group and 4 octets; the data.
use Rattle.std.specs.Prelude.{◌≡◌, ℕ, ◌≤◌, ◌<◌, ◌^◌, ◌==◌, List, [], ◌∷◌, ◌++◌, length}
use Rattle.std.specs.Prelude.{drop, slice_index, Option, Some, None, if◌then◌else◌}
use Rattle.std.specs.Borrow.{Bor}
use Rattle.std.specs.Int.{w16, to_be_bytes}
use Rattle.ip_wire.specs.Octets.{u16_at}
use Rattle.ip_address.specs.declared.ipv6.Ipv6Address.{Ipv6Address}
use Rattle.ip_wire.specs.Ipv6Packet.{address_at, address_text}
use Rattle.control_wire.specs.declared.mld.MldRepr.{MldRepr}
use Rattle.control_wire.specs.declared.mld.MldRepr.TheVariants.{Query, Report}
use Rattle.control_wire.specs.declared.mld.MldRecordType.{MldRecordType}
use Rattle.control_wire.specs.declared.mld.MldRecordType.TheVariants.{ModeIsExclude, ChangeToInclude, ChangeToExclude}
use Rattle.control_wire.specs.declared.mld.MldAddressRecordRepr.{MldAddressRecordRepr}

abbrev pub type_in : List ℕ → ℕ
type_in octets = slice_index octets 0

-- the octets are a query (RFC 3810 5.1) or a report (5.2), with code 0
pub data IsMld (octets : List ℕ) : Type 0 where
  IsQuery : type_in octets ≡ 130 → slice_index octets 1 ≡ 0 → 28 ≤ length octets → IsMld octets
  IsReport : type_in octets ≡ 143 → slice_index octets 1 ≡ 0 → 8 ≤ length octets → IsMld octets

-- its values and its data: a query's sources, a report's address records
abbrev pub mld_in : List ℕ → MldRepr × List ℕ
mld_in octets =
    if type_in octets == 130 then (Query (u16_at octets 4) (address_at octets 8), drop 28 octets) else
    (Report (u16_at octets 6), drop 8 octets)

-- values and data, apart from where that is in memory
abbrev pub parts : MldRepr × Bor (List ℕ) → MldRepr × List ℕ
parts p = (p.0, p.1.now)

abbrev pub type_of : MldRepr → ℕ
type_of (Query code group) = 130
type_of (Report count) = 143

-- the length of a message without its data, in octets
abbrev pub message_len : MldRepr → ℕ
message_len (Query code group) = 28
message_len (Report count) = 8

-- the four octets after the checksum: maximum response code and reserved (5.1.3, 5.1.4), or reserved and the number of
-- records (5.2.1, 5.2.3)
abbrev pub rest_of : MldRepr → List ℕ
rest_of (Query code group) = to_be_bytes w16 code ++ 0 ∷ 0 ∷ []
rest_of (Report count) = 0 ∷ 0 ∷ to_be_bytes w16 count

-- a query's group, and zeros for its flags, robustness, interval and number of sources (5.1.5 to 5.1.9)
unfoldable pub query_body : Ipv6Address → List ℕ
query_body group = address_text group ++ 0 ∷ 0 ∷ 0 ∷ 0 ∷ []

-- the octets between the first eight and the data
abbrev pub body : MldRepr → List ℕ
body (Query code group) = query_body group
body (Report count) = []

-- a body's octets, or none
abbrev pub body_octets : Option (List ℕ) → List ℕ
body_octets None = []
body_octets (Some octets) = octets

-- the types of an address record (5.2.12)
abbrev pub number_of : MldRecordType → ℕ
number_of ModeIsExclude = 2
number_of ChangeToInclude = 3
number_of ChangeToExclude = 4

-- the text of an address record: type, no auxiliary data, no sources, the group (5.2.5 to 5.2.8)
unfoldable pub record_text : MldAddressRecordRepr → List ℕ
record_text r = number_of r.record_type ∷ 0 ∷ 0 ∷ 0 ∷ address_text r.mcast_addr

-- values that a message can have
abbrev pub IsMessage : MldRepr → Type 0
IsMessage (Query code group) = (code < 2 ^ 16) × (group.bits < 2 ^ 128)
IsMessage (Report count) = count < 2 ^ 16

-- the octets of a message with the two of its checksum
abbrev pub text_with : ℕ → ℕ → MldRepr → List ℕ → List ℕ
text_with c0 c1 m octets = type_of m ∷ 0 ∷ c0 ∷ c1 ∷ (rest_of m ++ body m ++ octets)

-- they are parsed back as its values and its data, whatever the checksum
abbrev pub ReadAgain : Type 0
ReadAgain = (c0 c1 : ℕ) (m : MldRepr) (octets : List ℕ) → IsMessage m
    → IsMld (text_with c0 c1 m octets) × (mld_in (text_with c0 c1 m octets) ≡ (m, octets))
