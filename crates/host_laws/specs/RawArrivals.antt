-- What raw sockets receive, and in which frames it arrives (RFC 791 3.2, RFC 8200 3, 4.3).
use Rattle.std.specs.Prelude.{◌≡◌, ◌≢◌, ℕ, Bool, true, false, List, [], ◌∷◌, ◌++◌, Option, if◌then◌else◌}
use Rattle.std.specs.Option.{option_and_then, option_map}
use Rattle.net_base.specs.Checksum.{is_rx}
use Rattle.ip_address.specs.declared.ip.IpAddress.TheVariants as address
use Rattle.ip_address.specs.Protocol.{number_of}
use Rattle.ip_address.specs.Ipv6.{is_unicast}
use Rattle.ip_wire.specs.declared.ip_packet.IpRepr.{IpRepr}
use Rattle.ip_wire.specs.declared.ip_packet.IpRepr.TheVariants as repr
use Rattle.ip_wire.specs.IpPacket.{next_header, version_of}
use Rattle.ip_wire.specs.Ipv4Packet.{IsIpv4, ipv4_in, is_fragment}
use Rattle.ip_wire.specs.Ipv6Packet.{IsIpv6, ipv6_in}
use Rattle.ip_wire.specs.HopByHop.{IsHopByHop, hop_by_hop_in, first_failure}
use Rattle.ip_wire.specs.declared.hop_by_hop.Ipv6OptionFailureType.TheVariants.{Skip}
use Rattle.sockets.specs.Raw.{RawSocket, accepts, socket_after_delivery}
use Rattle.sockets.specs.Kinds.{down_raw}
use Rattle.socket_set.specs.SocketSet.{socket_at}
use Rattle.fragmentation.specs.Reassembly.{SlotNote, Rebuild}
use Rattle.host_machine.specs.Context.Host.{Host, SocketSet}
use Rattle.host_machine.specs.Context.Addresses.{is_for_host, may_be_source}
use Rattle.host_machine.specs.Receive.Ipv4.{key_in, datagram_header}
use Rattle.host_laws.specs.Laws.Frames.{Carries}
use Rattle.host_laws.specs.Deliveries.{CarriesIpv6}

-- the raw socket at an index, if there is one
abbrev pub raw_at : SocketSet → ℕ → Option RawSocket
raw_at sockets i = option_and_then down_raw (socket_at sockets i)

-- a packet that arrived: its header, its payload, and whether it was reassembled from fragments
pub record RawArrival : Type 0 where
  pub header : IpRepr
  pub payload : List ℕ
  pub is_reassembled : Bool

-- A frame brings a packet to the raw sockets of a host. An IPv4 packet with a right header and a valid source, whatever
-- its destination: whole; or what was reassembled when the frame's fragment arrived, which is the last note then, with
-- that fragment's header. An IPv6 packet from a unicast source, for the host: as it is; or, if it begins with
-- hop-by-hop options that are known or to be skipped, with what follows them as its payload.
pub data BringsRaw (H : Host) (frame : List ℕ) (noted : List SlotNote) (a : RawArrival) : Type 0 where
  OverIpv4 : (packet : List ℕ) → Carries H.hardware_addr frame packet →
      IsIpv4 (is_rx H.capabilities.checksum.ipv4) packet →
      may_be_source H.ip_addrs (ipv4_in packet).0.src_addr ≡ true → is_fragment (ipv4_in packet).1 ≡ false →
      a ≡ record { header = repr.Ipv4 (ipv4_in packet).0; payload = (ipv4_in packet).2; is_reassembled = false } →
      BringsRaw H frame noted a
  InFragments : (packet octets : List ℕ) (earlier : List SlotNote) → Carries H.hardware_addr frame packet →
      IsIpv4 (is_rx H.capabilities.checksum.ipv4) packet →
      may_be_source H.ip_addrs (ipv4_in packet).0.src_addr ≡ true → is_fragment (ipv4_in packet).1 ≡ true →
      noted ≡ earlier ++ Rebuild (key_in (ipv4_in packet).0 (ipv4_in packet).1) octets ∷ [] →
      a ≡ record {
        header = repr.Ipv4 (datagram_header (ipv4_in packet).0 octets);
        payload = octets;
        is_reassembled = true;
      } → BringsRaw H frame noted a
  OverIpv6 : (packet : List ℕ) → CarriesIpv6 H.hardware_addr frame packet → IsIpv6 packet →
      is_unicast (ipv6_in packet).0.src_addr ≡ true → number_of (ipv6_in packet).0.next_header ≢ 0 →
      is_for_host H (address.Ipv6 (ipv6_in packet).0.dst_addr) ≡ true →
      a ≡ record { header = repr.Ipv6 (ipv6_in packet).0; payload = (ipv6_in packet).1; is_reassembled = false } →
      BringsRaw H frame noted a
  AfterOptions : (packet : List ℕ) → CarriesIpv6 H.hardware_addr frame packet → IsIpv6 packet →
      is_unicast (ipv6_in packet).0.src_addr ≡ true → number_of (ipv6_in packet).0.next_header ≡ 0 →
      IsHopByHop (ipv6_in packet).1 → first_failure (hop_by_hop_in (ipv6_in packet).1).0.options.items ≡ Skip →
      is_for_host H (address.Ipv6 (ipv6_in packet).0.dst_addr) ≡ true →
      a ≡ record {
        header = repr.Ipv6 (ipv6_in packet).0;
        payload = (hop_by_hop_in (ipv6_in packet).1).1;
        is_reassembled = false;
      } → BringsRaw H frame noted a

-- what arrives in frames received one after another, with the notes about slots of each: at most one packet in each
pub data Arrive (H : Host) : List (List ℕ) → List SlotNote → List RawArrival → Type 0 where
  NoFrame : Arrive H [] [] []
  OneBrings : {frames : List (List ℕ)} {noted : List SlotNote} {cs : List RawArrival} (frame : List ℕ)
      (own : List SlotNote) (a : RawArrival) → BringsRaw H frame own a → Arrive H frames noted cs →
      Arrive H (frame ∷ frames) (own ++ noted) (a ∷ cs)
  NoneBrings : {frames : List (List ℕ)} {noted : List SlotNote} {cs : List RawArrival} (frame : List ℕ)
      (own : List SlotNote) → Arrive H frames noted cs → Arrive H (frame ∷ frames) (own ++ noted) cs

-- the socket after a packet arrived: if it accepts the packet's version and protocol, and has room for it, the packet
-- is appended to its receive queue, as it is stored
abbrev pub socket_after_arrival : Bool → RawArrival → RawSocket → RawSocket
socket_after_arrival summed a s = if accepts s (version_of a.header) (next_header a.header)
    then socket_after_delivery summed a.header a.payload s else s

-- and after these packets, in order
abbrev pub with_arrivals : Bool → List RawArrival → RawSocket → RawSocket
with_arrivals summed [] s = s
with_arrivals summed (a ∷ cs) s = with_arrivals summed cs (socket_after_arrival summed a s)

-- a socket apart from what it has to send
abbrev pub without_sending : RawSocket → RawSocket
without_sending s = record s { tx = record s.tx { packets = [] } }

-- the raw socket at an index, if there is one, apart from what it has to send
abbrev pub receiver_at : SocketSet → ℕ → Option RawSocket
receiver_at sockets i = option_map without_sending (raw_at sockets i)
