-- Numbers at an offset, big-endian unless stated otherwise.
use Rattle.std.specs.Prelude.{ℕ, ◌+◌, ◌*◌, ◌^◌, ◌<◌, List, slice_index}

abbrev pub u16_at : List ℕ → ℕ → ℕ
u16_at octets at = slice_index octets at * 256 + slice_index octets (at + 1)

abbrev pub u32_at : List ℕ → ℕ → ℕ
u32_at octets at = slice_index octets at * 16777216 + slice_index octets (at + 1) * 65536
    + slice_index octets (at + 2) * 256 + slice_index octets (at + 3)

-- little-endian: the lowest octet first
abbrev pub u32_le_at : List ℕ → ℕ → ℕ
u32_le_at octets at = slice_index octets at + slice_index octets (at + 1) * 256 + slice_index octets (at + 2) * 65536
    + slice_index octets (at + 3) * 16777216

abbrev pub u64_le_at : List ℕ → ℕ → ℕ
u64_le_at octets at = u32_le_at octets at + 2 ^ 32 * u32_le_at octets (at + 4)

-- each of them is below 256
abbrev pub AreOctets : List ℕ → Type 0
AreOctets octets = (i : ℕ) → slice_index octets i < 256
