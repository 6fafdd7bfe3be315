-- Octets that begin with a packet of a version.
use Rattle.std.proofs.Common.{◌≡◌, ℕ, List, true, false, arith}
use Rattle.std.proofs.lemmas.Grind.{common_steps}
use Rattle.ip_wire.specs.Ipv4Packet.{IsIpv4}
use Rattle.ip_wire.specs.Ipv6Packet.{IsIpv6}
use Rattle.sockets.specs.Raw.{is_ipv4, is_ipv6}

pub is_ipv4_reads : (octets : List ℕ) → IsIpv4 false octets → is_ipv4 octets ≡ true
is_ipv4_reads octets h = grind (arith, common_steps, h.whole, h.version, h.header, h.header_fits, h.total_fits)

pub reads_is_ipv4 : (octets : List ℕ) → is_ipv4 octets ≡ true → IsIpv4 false octets
reads_is_ipv4 octets h = record {
  whole = grind (arith, common_steps, h);
  version = grind (arith, common_steps, h);
  header = grind (arith, common_steps, h);
  header_fits = grind (arith, common_steps, h);
  total_fits = grind (arith, common_steps, h);
  sum = λ no. cc;
}

pub is_ipv6_reads : (octets : List ℕ) → IsIpv6 octets → is_ipv6 octets ≡ true
is_ipv6_reads octets h = grind (arith, common_steps, h.whole, h.version, h.fits)

pub reads_is_ipv6 : (octets : List ℕ) → is_ipv6 octets ≡ true → IsIpv6 octets
reads_is_ipv6 octets h =
    record { whole = grind (arith, common_steps, h); version = grind (arith, common_steps, h); fits = grind (arith, common_steps, h) }
