-- A frame's header is read as it was written, and written as it was read.
use Rattle.std.proofs.Common.{◌≡◌, ℕ, ◌+◌, ◌*◌, ◌/◌, ◌%◌, ◌<◌, ◌^◌, List, ◌++◌, refl, ap, ◌∙◌, arith}
use Rattle.std.specs.Int.{w16, to_be_bytes}
use Rattle.ip_wire.specs.declared.ethernet.EthernetProtocol.{EthernetProtocol}
use Rattle.ip_address.specs.declared.ethernet_address.EthernetAddress.{EthernetAddress}
use Rattle.ip_wire.specs.declared.ethernet.EthernetRepr.{EthernetRepr}
use Rattle.ip_wire.specs.Ethernet.{protocol_of, number_of, ethernet_in, ReadAgain}
use Rattle.ip_address.proofs.SixOctets.{Six, six}

number : (n : ℕ) → n < 2 ^ 16 → n / 256 % 256 * 256 + n % 256 ≡ n
number n lt = omega arith

made : (d s : EthernetAddress) (t u : EthernetProtocol) (payload : List ℕ) → t ≡ u
    → ◌≡◌ {A = EthernetRepr × List ℕ} (record { dst_addr = d; src_addr = s; ethertype = t }, payload)
    (record { dst_addr = d; src_addr = s; ethertype = u }, payload)
made d s t u payload e = rw e refl

header_again : (d s payload : List ℕ) (t : EthernetProtocol) (n : ℕ) → Six d → Six s → n < 2 ^ 16 → protocol_of n ≡ t
    → ethernet_in (d ++ s ++ to_be_bytes w16 n ++ payload)
    ≡ (record { dst_addr = record { 0 = d }; src_addr = record { 0 = s }; ethertype = t }, payload)
header_again d s payload t n d6 s6 lt e = rw (d6.is, s6.is) (made _ _ _ t payload (ap protocol_of (number n lt) ∙ e))

pub read_again : ReadAgain
read_again r payload h = header_again r.dst_addr.0 r.src_addr.0 payload r.ethertype (number_of r.ethertype) (six r.dst_addr.0 h.destination)
    (six r.src_addr.0 h.source) h.number h.protocol
