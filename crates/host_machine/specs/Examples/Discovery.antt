-- A worked exchange over IPv6, computed from the definitions: a host solicits a neighbour (RFC 4861 7.2.2).
use Rattle.std.specs.Prelude.{ℕ, pos, List, [], ◌∷◌, Err}
use Rattle.std.proofs.Common.{lit≤}
use Rattle.ip_address.specs.declared.ipv6.Ipv6Address.{Ipv6Address}
use Rattle.ip_address.specs.declared.cidr.IpCidr.TheVariants as cidr
use Rattle.iface_tables.specs.Neighbor.{Neighbors}
use Rattle.host_machine.specs.declared.results.DispatchError.TheVariants.{NeighborPending}
use Rattle.host_machine.specs.Context.Note.{OfDiscovery, OfIdentification, Ask, Identify}
use Rattle.host_machine.specs.Context.Host.{Host}
use Rattle.host_machine.specs.Packet.Packet.{Packet, Ipv6, Udp}
use Rattle.host_machine.specs.Send.Dispatch.{Dispatches}
use Rattle.host_machine.specs.Examples.ArpAndEcho as example

-- fe80::1 and fe80::2
abbrev pub own : Ipv6Address
own = record { bits = 0xfe80_0000_0000_0000_0000_0000_0000_0001 }

abbrev pub neighbor : Ipv6Address
neighbor = record { bits = 0xfe80_0000_0000_0000_0000_0000_0000_0002 }

-- a host at fe80::1
abbrev pub host : ℕ → Neighbors → Host
host ipv4_id neighbors = record (example.host ipv4_id neighbors) {
  ip_addrs = cidr.Ipv6 (record { address = own; prefix_len = 64; in_range = lit≤ tt }) ∷ [];
}

-- an empty datagram of its own for fe80::2
abbrev pub packet : Packet
packet = Ipv6 (record {
  src_addr = own;
  dst_addr = neighbor;
  hop_limit = 64;
  payload = Udp (record { src_port = 6969; dst_port = 5000 }) [];
})

-- fe80::1 at 02:00:00:00:00:01 solicits fe80::2 at its solicited-node group
abbrev pub solicitation : List ℕ
solicitation =
    0x33 ∷ 0x33 ∷ 0xff ∷ 0 ∷ 0 ∷ 0x02 ∷ 0x02 ∷ 0 ∷ 0 ∷ 0 ∷ 0 ∷ 0x01 ∷ 0x86 ∷ 0xdd
    ∷ 0x60 ∷ 0 ∷ 0 ∷ 0 ∷ 0 ∷ 0x20 ∷ 0x3a ∷ 0xff
    ∷ 0xfe ∷ 0x80 ∷ 0 ∷ 0 ∷ 0 ∷ 0 ∷ 0 ∷ 0 ∷ 0 ∷ 0 ∷ 0 ∷ 0 ∷ 0 ∷ 0 ∷ 0 ∷ 0x01
    ∷ 0xff ∷ 0x02 ∷ 0 ∷ 0 ∷ 0 ∷ 0 ∷ 0 ∷ 0 ∷ 0 ∷ 0 ∷ 0 ∷ 0x01 ∷ 0xff ∷ 0 ∷ 0 ∷ 0x02
    ∷ 0x87 ∷ 0 ∷ 0x7a ∷ 0x97 ∷ 0 ∷ 0 ∷ 0 ∷ 0
    ∷ 0xfe ∷ 0x80 ∷ 0 ∷ 0 ∷ 0 ∷ 0 ∷ 0 ∷ 0 ∷ 0 ∷ 0 ∷ 0 ∷ 0 ∷ 0 ∷ 0 ∷ 0 ∷ 0x02
    ∷ 0x01 ∷ 0x01 ∷ 0x02 ∷ 0 ∷ 0 ∷ 0 ∷ 0 ∷ 0x01 ∷ []

-- its dispatch and that of the solicitation use an identification each, and the silence begins
abbrev pub NeighborIsSolicited : Type 0
NeighborIsSolicited =
    Dispatches packet (Err NeighborPending) (host 0x1405 (example.no_neighbors (pos 0))) (solicitation ∷ [])
    (example.identify ∷ OfIdentification (Identify 0x1406) ∷ OfDiscovery (Ask (pos 0)) ∷ [])
    (host 0x1407 (example.no_neighbors (pos 1000000)))
