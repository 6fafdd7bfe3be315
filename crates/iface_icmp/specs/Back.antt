-- Replies to the source of a packet.
use Rattle.std.specs.Prelude.{List}
use Rattle.ip_address.specs.declared.cidr.IpCidr.{IpCidr}
use Rattle.ip_wire.specs.declared.ipv6_packet.Ipv6Repr.{Ipv6Repr}
use Rattle.host_machine.specs.Icmp.Icmpv6.{reply_source}
use Rattle.host_machine.specs.Packet.Packet.{IpPayload, Ipv6}
use Rattle.host_machine.specs.Receive.Reply.{Reply, Ip}

-- a payload in reply to a packet over IPv6, with hop limit 64
abbrev pub payload_back : List IpCidr → Ipv6Repr → IpPayload → Reply
payload_back own r payload = Ip (Ipv6 (record {
  src_addr = reply_source own r;
  dst_addr = r.src_addr;
  hop_limit = 64;
  payload = payload;
}))
