-- Which fragments arrive in a run, and in which frames.
use Rattle.std.specs.Prelude.{◌≡◌, ℕ, ◌≤◌, true, List, [], ◌∷◌, length, drop}
use Rattle.net_base.specs.Checksum.{is_rx}
use Rattle.net_base.specs.Device.{handed_frames}
use Rattle.ip_address.specs.declared.ethernet_address.EthernetAddress.{EthernetAddress}
use Rattle.ip_address.specs.declared.hardware.HardwareAddress.{HardwareAddress}
use Rattle.ip_address.specs.declared.hardware.HardwareAddress.TheVariants as hardware
use Rattle.ip_wire.specs.declared.ethernet.EthernetProtocol.TheVariants as protocol
use Rattle.ip_wire.specs.Ethernet.{header_in}
use Rattle.ip_wire.specs.Ipv4Packet.{IsIpv4, ipv4_in, is_fragment}
use Rattle.fragmentation.specs.declared.key.FragKey.{FragKey}
use Rattle.fragmentation.specs.Fragments.{Fragment}
use Rattle.fragmentation.specs.Reassembly.{SlotNote, Take, Arrival, Rebuild}
use Rattle.host_machine.specs.Context.Note.{slot_notes}
use Rattle.host_machine.specs.declared.command.Command.{Command}
use Rattle.host_machine.specs.declared.command.Command.TheVariants.{Poll}
use Rattle.host_machine.specs.Context.Host.{Host, at}
use Rattle.host_machine.specs.Interface.Polling.{after_maintenance}
use Rattle.host_machine.specs.Context.Addresses.{may_be_source}
use Rattle.host_machine.specs.Receive.Ethernet.{is_for, version_in}
use Rattle.host_machine.specs.Receive.Ipv4.{key_in, fragment_in}
use Rattle.host_machine.specs.Interface.Run.{Transition}

-- a frame that a host accepts carries an IPv4 packet: over Ethernet after the header, if the frame is for the host
-- (RFC 894); on a medium without hardware addresses it is the packet
pub data Carries (h : HardwareAddress) (frame packet : List ℕ) : Type 0 where
  OverEthernet : (own : EthernetAddress) → h ≡ hardware.Ethernet own → 14 ≤ length frame →
      is_for own (header_in frame).dst_addr ≡ true →
      (header_in frame).ethertype ≡ protocol.Ipv4 → packet ≡ drop 14 frame → Carries h frame packet
  AsItStands : h ≡ hardware.Ip → version_in frame ≡ 4 → packet ≡ frame → Carries h frame packet

-- a frame carries a fragment under a key: the header of its packet is right, the source is valid, and it is a
-- fragment of a datagram
pub record Brings (H : Host) (frame : List ℕ) (key : FragKey) (f : Fragment) : Type 0 where
  pub packet : List ℕ
  pub carried : Carries H.hardware_addr frame packet
  pub ipv4 : IsIpv4 (is_rx H.capabilities.checksum.ipv4) packet
  pub source : may_be_source H.ip_addrs (ipv4_in packet).0.src_addr ≡ true
  pub part : is_fragment (ipv4_in packet).1 ≡ true
  pub key_is : key ≡ key_in (ipv4_in packet).0 (ipv4_in packet).1
  pub fragment_is : f ≡ fragment_in (ipv4_in packet).1 (ipv4_in packet).2

-- all fragments that arrived, each with its key
abbrev pub all_arrivals : List SlotNote → List (FragKey × Fragment)
all_arrivals [] = []
all_arrivals (Take k ∷ notes) = all_arrivals notes
all_arrivals (Arrival k f ∷ notes) = (k, f) ∷ all_arrivals notes
all_arrivals (Rebuild k octets ∷ notes) = all_arrivals notes

-- what frames carry that are received one after another: each fragment that one carries, and no other
pub data Bring (H : Host) : List (List ℕ) → List (FragKey × Fragment) → Type 0 where
  NoFrame : Bring H [] []
  OneBrings : {frames : List (List ℕ)} {came : List (FragKey × Fragment)}
      (frame : List ℕ) (key : FragKey) (f : Fragment) →
      Brings H frame key f → Bring H frames came → Bring H (frame ∷ frames) ((key, f) ∷ came)
  NoneBrings : {frames : List (List ℕ)} {came : List (FragKey × Fragment)} (frame : List ℕ) →
      ((key : FragKey) (f : Fragment) → Brings H frame key f → ⊥) → Bring H frames came → Bring H (frame ∷ frames) came

-- the host that receives frames in a command: a poll maintains it first
abbrev pub receiving_host : Command → Host → Host
receiving_host (Poll t budget) H = after_maintenance (at H t)
receiving_host other H = H

-- in one transition: the fragments in the frames received arrive, in order, and nothing else
abbrev pub ArrivesInFrames : Transition → Type 0
ArrivesInFrames p = Bring (receiving_host p.command p.before) (handed_frames p.told) (all_arrivals (slot_notes p.notes))
