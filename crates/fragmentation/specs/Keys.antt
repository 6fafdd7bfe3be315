-- The key that the fragments of one datagram share (RFC 791 3.2).
use Rattle.std.specs.Prelude.{ℕ, Bool}
use Rattle.std.specs.Ordering.{nat_cmp, ordering_then, eq_by_cmp}
use Rattle.std.specs.declared.cmp.Ordering.{Ordering}
use Rattle.ip_address.specs.Protocol.{number_of}
use Rattle.ip_wire.specs.declared.ipv4_packet.Ipv4Repr.{Ipv4Repr}
use Rattle.fragmentation.specs.declared.key.FragKey.{FragKey}

-- the key of a packet's fragments: its identification, source, destination, and its protocol by number
abbrev pub key_of : Ipv4Repr → ℕ → FragKey
key_of r identification = record {
  identification = identification;
  src_addr = r.src_addr;
  dst_addr = r.dst_addr;
  protocol = number_of r.next_header;
}

-- an order of keys, so that slots can be a map from them
abbrev pub key_cmp : FragKey → FragKey → Ordering
key_cmp a b =
    ordering_then (nat_cmp a.identification b.identification) (ordering_then (nat_cmp a.src_addr.bits b.src_addr.bits)
    (ordering_then (nat_cmp a.dst_addr.bits b.dst_addr.bits) (nat_cmp a.protocol b.protocol)))

abbrev pub same_key : FragKey → FragKey → Bool
same_key a b = eq_by_cmp key_cmp a b
