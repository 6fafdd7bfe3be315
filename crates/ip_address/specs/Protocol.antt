-- The numbers of the protocols over IP (RFC 790, RFC 8200 4), and IP's versions.
use Rattle.std.specs.Prelude.{ℕ, ◌==◌, Bool, true, false, if◌then◌else◌}
use Rattle.ip_address.specs.declared.ip.IpAddress.{IpAddress}
use Rattle.ip_address.specs.declared.ip.IpAddress.TheVariants as address
use Rattle.ip_address.specs.declared.protocol.IpProtocol.{IpProtocol}
use Rattle.ip_address.specs.declared.protocol.IpProtocol.TheVariants.{HopByHop, Icmp, Igmp, Tcp, Udp, Icmpv6, Unknown}
use Rattle.ip_address.specs.declared.protocol.IpVersion.{IpVersion}
use Rattle.ip_address.specs.declared.protocol.IpVersion.TheVariants as version

abbrev pub number_of : IpProtocol → ℕ
number_of HopByHop = 0
number_of Icmp = 1
number_of Igmp = 2
number_of Tcp = 6
number_of Udp = 17
number_of Icmpv6 = 58
number_of (Unknown n) = n

abbrev pub protocol_of : ℕ → IpProtocol
protocol_of n =
    if n == 0 then HopByHop else if n == 1 then Icmp else if n == 2 then Igmp else if n == 6 then Tcp
    else if n == 17 then Udp else if n == 58 then Icmpv6 else Unknown n

-- protocols are equal if their numbers are
abbrev pub is_same : IpProtocol → IpProtocol → Bool
is_same p q = number_of p == number_of q

-- the version of IP with such addresses
abbrev pub version_of : IpAddress → IpVersion
version_of (address.Ipv4 a) = version.Ipv4
version_of (address.Ipv6 a) = version.Ipv6

abbrev pub is_ipv4 : IpAddress → Bool
is_ipv4 (address.Ipv4 a) = true
is_ipv4 (address.Ipv6 a) = false
