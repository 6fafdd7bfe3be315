-- The fragments of packets that are sent (RFC 791 3.2), and the octets of a fragment.
use Rattle.std.specs.Prelude.{ℕ, zero, suc, ◌+◌, ◌-◌, ◌*◌, ◌/◌, ◌^◌, ◌<◌, ◌≤◌, nat_le}
use Rattle.std.specs.Prelude.{false, not, List, [], ◌∷◌, length, take, drop, map}
use Rattle.ip_address.specs.declared.hardware.HardwareAddress.{HardwareAddress}
use Rattle.ip_wire.specs.declared.ipv4_packet.Ipv4Repr.{Ipv4Repr}
use Rattle.ip_wire.specs.declared.ipv4_packet.Ipv4Fragment.{Ipv4Fragment}
use Rattle.fragmentation.specs.Fragments.{Fragment}

-- fragment k of a payload, where each but the last has m octets: its offset is k times m, and it is the last one if
-- the payload ends with it
abbrev pub piece_at : ℕ → List ℕ → ℕ → Fragment
piece_at m payload k =
    record { offset = k * m; octets = take m (drop (k * m) payload); is_last = nat_le (length payload) (k * m + m) }

-- the number of fragments
abbrev pub count : ℕ → ℕ → ℕ
count m n = (n + (m - 1)) / m

-- n fragments, from fragment k on
abbrev pub pieces_from : ℕ → List ℕ → ℕ → ℕ → List Fragment
pieces_from m payload k zero = []
pieces_from m payload k (suc n) = piece_at m payload k ∷ pieces_from m payload (k + 1) n

-- the fragments in order
abbrev pub cut : ℕ → List ℕ → List Fragment
cut m payload = pieces_from m payload 0 (count m (length payload))

-- a packet that is fragmented: its hardware destination, its header with an identification, its payload, and the length
-- of each fragment but the last
pub record Datagram : Type 0 where
  pub destination : HardwareAddress
  pub header : Ipv4Repr
  pub identification : ℕ
  pub payload : List ℕ
  pub size : ℕ

-- a fragment to send: its hardware destination, the header of its packet with the identification, and the fragment
pub record Piece : Type 0 where
  pub destination : HardwareAddress
  pub header : Ipv4Repr
  pub identification : ℕ
  pub fragment : Fragment

abbrev pub piece_of : Datagram → Fragment → Piece
piece_of d f =
    record { destination = d.destination; header = d.header; identification = d.identification; fragment = f }

-- its fragments: all have one hardware destination, one header and one identification
abbrev pub pieces_of : Datagram → List Piece
pieces_of d = map (piece_of d) (cut d.size d.payload)

-- the header of a fragment: that of the packet, with the fragment's own length
abbrev pub piece_header : Piece → Ipv4Repr
piece_header p = record p.header { payload_len = length p.fragment.octets }

-- its fragmentation fields; the offset is in units of eight octets
abbrev pub piece_fragment : Piece → Ipv4Fragment
piece_fragment p = record {
  identification = p.identification;
  dont_fragment = false;
  more_fragments = not p.fragment.is_last;
  offset = p.fragment.offset / 8;
}

-- its values fit the fields of a header, as those of every packet do that a program holds
pub record HasForm (d : Datagram) : Type 0 where
  pub source_addr : d.header.src_addr.bits < 2 ^ 32
  pub destination_addr : d.header.dst_addr.bits < 2 ^ 32
  pub identification : d.identification < 2 ^ 16
  pub payload : length d.payload ≤ 4096
