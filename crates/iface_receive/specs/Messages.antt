-- What may be an ICMPv6 message.
use Rattle.std.specs.Prelude.{List, ℕ}
use Rattle.net_base.specs.Checksum.{is_rx}
use Rattle.ip_address.specs.declared.ip.IpAddress.TheVariants.{Ipv6}
use Rattle.ip_wire.specs.declared.ipv6_packet.Ipv6Repr.{Ipv6Repr}
use Rattle.control_wire.specs.Icmpv6.{IsSound}
use Rattle.host_machine.specs.Context.Host.{Host}

-- the payload of a packet with this header has at least the length of a message's header, and its checksum is
-- right if that is verified
abbrev pub MayBeMessage : Host → Ipv6Repr → List ℕ → Type 0
MayBeMessage H r octets = IsSound (is_rx H.capabilities.checksum.icmpv6) (Ipv6 r.src_addr) (Ipv6 r.dst_addr) octets
