-- IGMP (RFC 2236 2; version 1 in RFC 1112 appendix I): type, code, checksum, the group.
use Rattle.std.specs.Prelude.{◌≡◌, ℕ, ◌+◌, ◌*◌, ◌/◌, ◌%◌, ◌≤◌, ◌^◌, ◌⊎◌, ◌==◌, ◌||◌, nat_lt}
use Rattle.std.specs.Prelude.{Bool, IsTrue, List, ◌∷◌, ◌++◌, length, slice_index, if◌then◌else◌}
use Rattle.std.specs.Int.{w16, w32, to_be_bytes}
use Rattle.ip_wire.specs.Checksum.{checksum_of}
use Rattle.ip_wire.specs.Octets.{u32_at}
use Rattle.ip_address.specs.Ipv4.{is_unspecified, is_multicast}
use Rattle.ip_address.specs.declared.ipv4.Ipv4Address.{Ipv4Address}
use Rattle.control_wire.specs.declared.igmp.IgmpVersion.{IgmpVersion}
use Rattle.control_wire.specs.declared.igmp.IgmpVersion.TheVariants.{Version1, Version2}
use Rattle.control_wire.specs.declared.igmp.IgmpRepr.{IgmpRepr}
use Rattle.control_wire.specs.declared.igmp.IgmpRepr.TheVariants.{MembershipQuery, MembershipReport, LeaveGroup}

abbrev pub type_in : List ℕ → ℕ
type_in octets = slice_index octets 0

-- the group (RFC 2236 2.4)
abbrev pub group_in : List ℕ → Ipv4Address
group_in octets = record { bits = u32_at octets 4 }

-- a message may carry the group: 0.0.0.0, as a general query does, or a multicast address (RFC 2236 2.4)
abbrev pub is_group : Ipv4Address → Bool
is_group a = is_unspecified a || is_multicast a

-- the types (RFC 2236 2.1): a query, a report of version 1, a report of version 2, a leave
abbrev pub IsType : ℕ → Type 0
IsType n = (n ≡ 0x11) ⊎ (n ≡ 0x12) ⊎ (n ≡ 0x16) ⊎ (n ≡ 0x17)

-- the octets begin with a message, perhaps with more after it (RFC 2236 2.5); the checksum isn't verified
pub record IsIgmp (octets : List ℕ) : Type 0 where
  pub whole : 8 ≤ length octets
  pub type : IsType (type_in octets)
  pub group : IsTrue (is_group (group_in octets))

-- its values; only a query has a code (RFC 2236 2.2)
abbrev pub igmp_in : List ℕ → IgmpRepr
igmp_in octets =
    if type_in octets == 0x11 then MembershipQuery (slice_index octets 1) (group_in octets) else
    if type_in octets == 0x12 then MembershipReport (group_in octets) Version1 else
    if type_in octets == 0x16 then MembershipReport (group_in octets) Version2 else
    LeaveGroup (group_in octets)

-- the type, the code and the group of a message
abbrev pub report_type : IgmpVersion → ℕ
report_type Version1 = 0x12
report_type Version2 = 0x16

abbrev pub type_of : IgmpRepr → ℕ
type_of (MembershipQuery code group) = 0x11
type_of (MembershipReport group version) = report_type version
type_of (LeaveGroup group) = 0x17

abbrev pub code_of : IgmpRepr → ℕ
code_of (MembershipQuery code group) = code
code_of (MembershipReport group version) = 0
code_of (LeaveGroup group) = 0

abbrev pub group_of : IgmpRepr → Ipv4Address
group_of (MembershipQuery code group) = group
group_of (MembershipReport group version) = group
group_of (LeaveGroup group) = group

-- the eight octets, with a checksum
unfoldable pub text_with : ℕ → IgmpRepr → List ℕ
text_with sum r = type_of r ∷ code_of r ∷ (to_be_bytes w16 sum ++ to_be_bytes w32 (group_of r).bits)

-- the text of a message; its checksum is that of all eight octets with 0 in its place (RFC 2236 2.3)
abbrev pub text : IgmpRepr → List ℕ
text r = text_with (checksum_of (text_with 0 r)) r

-- a query of version 1 has code 0 (RFC 2236 4)
abbrev pub query_version : ℕ → IgmpVersion
query_version code = if code == 0 then Version1 else Version2

-- the time of a code, in tenths of a second: from 128 on it has a mantissa of four bits and an exponent of
-- three (RFC 3376 4.1.1)
abbrev pub tenths_of : ℕ → ℕ
tenths_of code = if nat_lt code 128 then code else (code % 16 + 16) * 2 ^ (code / 16 % 8 + 3)

-- a text is parsed back as its values, whatever follows it, if a message may carry the group
abbrev pub ReadAgain : Type 0
ReadAgain = (r : IgmpRepr) (more : List ℕ) →
    IsTrue (is_group (group_of r)) → IsIgmp (text r ++ more) × (igmp_in (text r ++ more) ≡ r)
