-- Worked examples of fragments: the frames of a datagram in two fragments, and how the host of 192.168.69.1/24
-- processes them; and the same datagram sent by the host.
use Rattle.std.specs.Prelude.{◌≡◌, ℕ, pos, true, false, List, [], ◌∷◌, None, Result, Ok, Err}
use Rattle.net_base.specs.Device.{Received, Frame, Asked, Sent}
use Rattle.ip_address.specs.declared.protocol.IpProtocol.TheVariants as protocol
use Rattle.fragmentation.specs.declared.key.FragKey.{FragKey}
use Rattle.fragmentation.specs.Fragments.{Fragment}
use Rattle.fragmentation.specs.Slots.{Slot, free_slots, with_slot, without_slot, live_at}
use Rattle.fragmentation.specs.Cuts.{Datagram, cut, piece_of}
use Rattle.fragmentation.specs.Reassembly.{Take, Arrival, Rebuild}
use Rattle.host_machine.specs.declared.results.PollIngressSingleResult.TheVariants as result
use Rattle.host_machine.specs.declared.results.PollResult.TheVariants as poll
use Rattle.host_machine.specs.declared.results.TimeoutError.{TimeoutError}
use Rattle.host_machine.specs.declared.results.TimeoutError.TheVariants.{TimeoutTooLong}
use Rattle.host_machine.specs.Context.Note.{OfIdentification, OfSlots, OfCuts, Identify, Cut, PieceSent}
use Rattle.host_machine.specs.Context.Host.{Host, with_left, with_slots}
use Rattle.host_machine.specs.Packet.Packet.{Packet, PacketV4, Ipv4, Raw}
use Rattle.host_machine.specs.Send.Dispatch.{Dispatches}
use Rattle.host_machine.specs.Interface.Egress.{Egress}
use Rattle.host_machine.specs.Interface.Step.{SetsReassemblyTimeout}
use Rattle.host_machine.specs.Interface.Ingress.{Ingress}
use Rattle.host_machine.specs.Examples.ArpAndEcho as example

-- 192.168.69.100 sends ten octets of protocol 2 in two fragments: the first eight, and the last two
abbrev pub first_fragment : List ℕ
first_fragment =
    0x02 ∷ 0 ∷ 0 ∷ 0 ∷ 0 ∷ 0x01 ∷ 0x02 ∷ 0 ∷ 0 ∷ 0 ∷ 0 ∷ 0x02 ∷ 0x08 ∷ 0
    ∷ 0x45 ∷ 0 ∷ 0 ∷ 0x1c ∷ 0 ∷ 0x07 ∷ 0x20 ∷ 0 ∷ 0x40 ∷ 0x02 ∷ 0x4f ∷ 0x23 ∷ 192 ∷ 168 ∷ 69 ∷ 100 ∷ 192 ∷ 168 ∷ 69 ∷ 1
    ∷ 1 ∷ 2 ∷ 3 ∷ 4 ∷ 5 ∷ 6 ∷ 7 ∷ 8 ∷ []

abbrev pub last_fragment : List ℕ
last_fragment =
    0x02 ∷ 0 ∷ 0 ∷ 0 ∷ 0 ∷ 0x01 ∷ 0x02 ∷ 0 ∷ 0 ∷ 0 ∷ 0 ∷ 0x02 ∷ 0x08 ∷ 0
    ∷ 0x45 ∷ 0 ∷ 0 ∷ 0x16 ∷ 0 ∷ 0x07 ∷ 0 ∷ 0x01 ∷ 0x40 ∷ 0x02 ∷ 0x6f ∷ 0x28 ∷ 192 ∷ 168 ∷ 69 ∷ 100 ∷ 192 ∷ 168 ∷ 69 ∷ 1
    ∷ 9 ∷ 10 ∷ []

abbrev pub key : FragKey
key = record {
  identification = 7;
  src_addr = record { bits = 0xc0a84564 };
  dst_addr = record { bits = 0xc0a84501 };
  protocol = 2;
}

abbrev pub ten : List ℕ
ten = 1 ∷ 2 ∷ 3 ∷ 4 ∷ 5 ∷ 6 ∷ 7 ∷ 8 ∷ 9 ∷ 10 ∷ []

abbrev pub one : Fragment
one = record { offset = 0; octets = 1 ∷ 2 ∷ 3 ∷ 4 ∷ 5 ∷ 6 ∷ 7 ∷ 8 ∷ []; is_last = false }

abbrev pub two : Fragment
two = record { offset = 8; octets = 9 ∷ 10 ∷ []; is_last = true }

-- they are the fragments of these ten octets, where each but the last has eight
abbrev pub TenAreCut : Type 0
TenAreCut = cut 8 ten ≡ one ∷ two ∷ []

-- what was received, in a slot that expires after 60 seconds, and a host with it
abbrev pub waiting_slot : Slot
waiting_slot = record { got = record { total = None; fragments = one ∷ [] }; ends = pos 60000000 }

abbrev pub waiting_host : Host
waiting_host = with_slots (example.host 0x1405 (example.no_neighbors (pos 0))) (with_slot (free_slots 2) key waiting_slot)

-- the first one takes a slot
abbrev pub FragmentWaits : Type 0
FragmentWaits =
    Ingress (pos 0) result.SocketStateChanged (example.host 0x1405 (example.no_neighbors (pos 0)))
    (Received (pos 0) (Frame first_fragment) ∷ []) (OfSlots (Take key) ∷ OfSlots (Arrival key one) ∷ []) waiting_host

-- the last one completes the datagram, and its slot is free again
abbrev pub DatagramIsRebuilt : Type 0
DatagramIsRebuilt =
    Ingress (pos 0) result.SocketStateChanged waiting_host
    (Received (pos 0) (Frame last_fragment) ∷ []) (OfSlots (Arrival key two) ∷ OfSlots (Rebuild key ten) ∷ [])
    (with_slots waiting_host (without_slot (live_at (pos 0) waiting_host.slots) key))

-- a host whose device carries packets of 28 octets, so that a fragment has eight octets
abbrev pub narrow_host : ℕ → Host
narrow_host ipv4_id = record (example.host ipv4_id example.neighbors_after_renewal) {
  capabilities = record example.device { max_transmission_unit = 42 };
}

-- the ten octets, by protocol 2, from that host to 192.168.69.100
abbrev pub ten_to_another : PacketV4
ten_to_another = record {
  src_addr = record { bits = 0xc0a84501 };
  dst_addr = record { bits = 0xc0a84564 };
  hop_limit = 64;
  payload = Raw protocol.Igmp ten;
}

abbrev pub packet : Packet
packet = Ipv4 ten_to_another

abbrev pub datagram : Datagram
datagram = record {
  destination = example.sender_hardware;
  header = record {
    src_addr = record { bits = 0xc0a84501 };
    dst_addr = record { bits = 0xc0a84564 };
    next_header = protocol.Igmp;
    payload_len = 10;
    hop_limit = 64;
  };
  identification = 7;
  payload = ten;
  size = 8;
}

abbrev pub first_sent : List ℕ
first_sent =
    0x02 ∷ 0 ∷ 0 ∷ 0 ∷ 0 ∷ 0x02 ∷ 0x02 ∷ 0 ∷ 0 ∷ 0 ∷ 0 ∷ 0x01 ∷ 0x08 ∷ 0
    ∷ 0x45 ∷ 0 ∷ 0 ∷ 0x1c ∷ 0 ∷ 0x07 ∷ 0x20 ∷ 0 ∷ 0x40 ∷ 0x02 ∷ 0x4f ∷ 0x23 ∷ 192 ∷ 168 ∷ 69 ∷ 1 ∷ 192 ∷ 168 ∷ 69 ∷ 100
    ∷ 1 ∷ 2 ∷ 3 ∷ 4 ∷ 5 ∷ 6 ∷ 7 ∷ 8 ∷ []

abbrev pub last_sent : List ℕ
last_sent =
    0x02 ∷ 0 ∷ 0 ∷ 0 ∷ 0 ∷ 0x02 ∷ 0x02 ∷ 0 ∷ 0 ∷ 0 ∷ 0 ∷ 0x01 ∷ 0x08 ∷ 0
    ∷ 0x45 ∷ 0 ∷ 0 ∷ 0x16 ∷ 0 ∷ 0x07 ∷ 0 ∷ 0x01 ∷ 0x40 ∷ 0x02 ∷ 0x6f ∷ 0x28 ∷ 192 ∷ 168 ∷ 69 ∷ 1 ∷ 192 ∷ 168 ∷ 69 ∷ 100
    ∷ 9 ∷ 10 ∷ []

-- that host with the second fragment pending
abbrev pub half_sent : Host
half_sent = with_left (narrow_host 8) (piece_of datagram two ∷ [])

-- the first fragment is sent and the second is pending; it stays pending while the device grants no transmit
-- token, and is then sent
pub record PacketGoesInPieces : Type 0 where
  pub first : Dispatches packet (Ok tt) (narrow_host 7) (first_sent ∷ [])
      (OfIdentification (Identify 7) ∷ OfCuts (Cut datagram) ∷ OfCuts (PieceSent (piece_of datagram one)) ∷ [])
      half_sent
  pub waits : Egress (pos 0) poll.None half_sent (Asked (pos 0) false ∷ []) [] half_sent
  pub last : Egress (pos 0) poll.None half_sent (Asked (pos 0) true ∷ Sent 0 last_sent ∷ [])
      (OfCuts (PieceSent (piece_of datagram two)) ∷ []) (narrow_host 8)

-- a reassembly timeout of a day is accepted; one of a microsecond more is refused, and nothing changes
pub record TimeoutsAreTested : Type 0 where
  pub of_a_day : (answer : Result (Unit {0}) TimeoutError) (old new : Host) →
      SetsReassemblyTimeout 86_400_000_000 answer old new →
      (answer ≡ Ok tt) × (new ≡ record old { reassembly_timeout = 86_400_000_000 })
  pub longer : (answer : Result (Unit {0}) TimeoutError) (old new : Host) →
      SetsReassemblyTimeout 86_400_000_001 answer old new →
      (answer ≡ Err TimeoutTooLong) × (new ≡ old)
