-- What a gateway forwards, and as what.
use Rattle.std.specs.Prelude.{ℕ, ◌-◌, ◌/◌, ◌%◌, ◌*◌, List, slice_index, slice_set, take}
use Rattle.ip_wire.specs.Checksum.{checksum_of}

-- RFC 791 3.1: how long a header is, in octets
abbrev pub header_len : List ℕ → ℕ
header_len packet = (slice_index packet 0 % 16) * 4

-- RFC 1812 5.3.1: the hop limit is less by one, and the checksum is 0 for now
abbrev pub without_checksum : List ℕ → List ℕ
without_checksum packet = slice_set (slice_set (slice_set packet 8 (slice_index packet 8 - 1)) 10 0) 11 0

-- a packet with the hop limit of the next hop, and the header's checksum of that; all other octets are as they came
abbrev pub with_checksum : ℕ → List ℕ → List ℕ
with_checksum checksum packet = slice_set (slice_set packet 10 (checksum / 256)) 11 (checksum % 256)

abbrev pub lowered : List ℕ → List ℕ
lowered packet = with_checksum (checksum_of (take (header_len packet) (without_checksum packet))) (without_checksum packet)
