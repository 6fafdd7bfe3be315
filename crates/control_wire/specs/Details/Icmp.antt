-- ICMP messages of either family (RFC 792, RFC 4443).
use Rattle.ip_address.specs.declared.protocol.IpVersion.{IpVersion}
use Rattle.ip_address.specs.declared.protocol.IpVersion.TheVariants as version
use Rattle.control_wire.specs.declared.icmp.IcmpRepr.{IcmpRepr}
use Rattle.control_wire.specs.declared.icmp.IcmpRepr.TheVariants.{Ipv4, Ipv6}

-- the IP version that carries a message
abbrev pub version_of : IcmpRepr → IpVersion
version_of (Ipv4 r) = version.Ipv4
version_of (Ipv6 r) = version.Ipv6
