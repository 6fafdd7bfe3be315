-- The Prefix Information option (RFC 4861 4.6.2): type and length, the prefix's length, flags, two lifetimes,
-- 4 octets, the prefix.
use Rattle.std.specs.Prelude.{⊤, ◌≡◌, ℕ, ◌<◌, ◌^◌, ◌==◌, nat_le, Bool}
use Rattle.std.specs.Prelude.{List, [], ◌∷◌, ◌++◌, slice_index, Option, Some, None}
use Rattle.std.specs.Int.{w32, to_be_bytes}
use Rattle.std.specs.Int.RustNames.{bit_and}
use Rattle.ip_wire.specs.Octets.{u32_at}
use Rattle.ip_wire.specs.Ipv6Packet.{address_at, address_text}
use Rattle.control_wire.specs.NdiscOption.{last_of, options_in}
use Rattle.control_wire.specs.declared.prefix_information.NdiscPrefixInfoFlags.{NdiscPrefixInfoFlags}
use Rattle.control_wire.specs.declared.prefix_information.NdiscPrefixInformation.{NdiscPrefixInformation}

-- the bits that are flags: 0x80 ON_LINK, 0x40 ADDRCONF; the others are reserved
abbrev pub flags_of : ℕ → ℕ
flags_of octet = bit_and octet 0xc0

-- whether hosts may form addresses from the prefix
abbrev pub is_for_addresses : NdiscPrefixInfoFlags → Bool
is_for_addresses flags = bit_and flags.0 0x40 == 0x40

-- whether the preferred lifetime of a prefix is at most its valid lifetime (RFC 4862 5.5.3)
abbrev pub is_valid_prefix_info : NdiscPrefixInformation → Bool
is_valid_prefix_info p = nat_le p.preferred_lifetime p.valid_lifetime

-- the prefix in the option that the octets begin with
abbrev pub prefix_at : List ℕ → NdiscPrefixInformation
prefix_at octets = record {
  prefix_len = slice_index octets 2;
  flags = record { 0 = flags_of (slice_index octets 3) };
  valid_lifetime = u32_at octets 4;
  preferred_lifetime = u32_at octets 8;
  prefix = address_at octets 16;
}

-- the prefix in the last option of its type, 3
abbrev pub prefix_in : List ℕ → Option NdiscPrefixInformation
prefix_in octets = last_of prefix_at 3 (options_in octets)

-- the text of an option with a prefix
unfoldable pub prefix_text : NdiscPrefixInformation → List ℕ
prefix_text p =
    3 ∷ 4 ∷ p.prefix_len ∷ flags_of p.flags.0 ∷ (to_be_bytes w32 p.valid_lifetime
    ++ to_be_bytes w32 p.preferred_lifetime ++ (0 ∷ 0 ∷ 0 ∷ 0 ∷ address_text p.prefix))

-- the option, if there is one, and its length
abbrev pub prefix_option : Option NdiscPrefixInformation → List ℕ
prefix_option None = []
prefix_option (Some p) = prefix_text p

abbrev pub prefix_len : Option NdiscPrefixInformation → ℕ
prefix_len None = 0
prefix_len (Some p) = 32

-- values that an option can have
abbrev pub IsPrefix : Option NdiscPrefixInformation → Type 0
IsPrefix None = ⊤
IsPrefix (Some p) = (flags_of p.flags.0 ≡ p.flags.0) × (p.valid_lifetime < 2 ^ 32)
    × (p.preferred_lifetime < 2 ^ 32) × (p.prefix.bits < 2 ^ 128)
