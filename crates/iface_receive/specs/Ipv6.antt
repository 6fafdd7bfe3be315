-- Where the payload of an IPv6 packet begins (RFC 8200 4.3).
use Rattle.std.specs.Prelude.{◌≡◌, ◌≢◌, ℕ, List, Option}
use Rattle.ip_address.specs.declared.hardware.HardwareAddress.{HardwareAddress}
use Rattle.ip_address.specs.declared.protocol.IpProtocol.{IpProtocol}
use Rattle.ip_address.specs.Protocol.{number_of}
use Rattle.ip_wire.specs.declared.ipv6_packet.Ipv6Repr.{Ipv6Repr}
use Rattle.ip_wire.specs.declared.hop_by_hop.Ipv6OptionFailureType.TheVariants.{Skip}
use Rattle.ip_wire.specs.HopByHop.{IsHopByHop, hop_by_hop_in, first_failure}
use Rattle.host_machine.specs.Context.Note.{Note}
use Rattle.host_machine.specs.Context.Host.{Host}
use Rattle.host_machine.specs.Receive.Reply.{Reply}
use Rattle.host_machine.specs.Receive.Ipv6.{ProcessesHopByHop}

-- what follows a header is a payload of the header's protocol; or hop-by-hop options, which are skipped, and then a
-- payload of the protocol that they name
pub data BeginsAt (r : Ipv6Repr) (octets : List ℕ) (protocol : IpProtocol) (payload : List ℕ) : Type 0 where
  AtOnce : number_of r.next_header ≢ 0 → protocol ≡ r.next_header → payload ≡ octets → BeginsAt r octets protocol payload
  BehindOptions : number_of r.next_header ≡ 0 → IsHopByHop octets →
      first_failure (hop_by_hop_in octets).0.options.items ≡ Skip →
      protocol ≡ (hop_by_hop_in octets).0.next_header → payload ≡ (hop_by_hop_in octets).1 →
      BeginsAt r octets protocol payload

-- a packet that its hop-by-hop options end, whoever sent it
pub record EndsAtOptions (r : Ipv6Repr) (H : Host) (octets : List ℕ) (reply : Option Reply) (notes : List Note)
    (new : Host) : Type 0 where
  pub has_options : number_of r.next_header ≡ 0
  pub ends : (source : HardwareAddress) → ProcessesHopByHop source r H octets reply notes new
