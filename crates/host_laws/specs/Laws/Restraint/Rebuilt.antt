-- A wrong checksum of a payload that came in fragments changes nothing either: the host verifies it once the payload is
-- whole (RFC 791 3.2, RFC 1122 3.3.2).
use Rattle.std.specs.Prelude.{◌≡◌, ℕ, ℤ, true, List, [], ◌∷◌, map}
use Rattle.net_base.specs.Device.{Event, sent_frames}
use Rattle.ip_address.specs.declared.ip.IpAddress.{IpAddress}
use Rattle.ip_wire.specs.Ipv4Packet.{ipv4_in, is_fragment}
use Rattle.fragmentation.specs.Reassembly.{SlotNote}
use Rattle.fragmentation.specs.Slots.{Slots}
use Rattle.iface_tables.specs.Neighbor.{Neighbors}
use Rattle.host_machine.specs.Context.Note.{Note, OfSlots, slot_notes}
use Rattle.host_machine.specs.Context.Host.{Host, Storage, at, with_neighbors, with_places, with_slots}
use Rattle.host_machine.specs.Receive.Ipv4.{key_in}
use Rattle.host_laws.specs.Laws.Arrivals.{rebuilt}
use Rattle.host_laws.specs.Laws.Restraint.Checksums.{HasWrongSumV4}
use Rattle.host_laws.specs.Laws.Restraint.Readings.{AreSameButRaw, CarriesV4, IsRenewed, Receives}
use Rattle.host_laws.specs.Laws.Restraint.Readings.{receiver_v4, sender_v4}

-- a fragment with which a payload was rebuilt under its key, as a call noted; and the checksum of that is wrong
pub record CompletesWrongPayload (H : Host) (packet : List ℕ) (notes : List Note) : Type 0 where
  pub payload : List ℕ
  pub part : is_fragment (ipv4_in packet).1 ≡ true
  pub rebuilds : rebuilt (key_in (ipv4_in packet).0 (ipv4_in packet).1) (slot_notes notes) ≡ payload ∷ []
  pub wrong : HasWrongSumV4 H.capabilities.checksum
      (sender_v4 packet) (receiver_v4 packet) payload (ipv4_in packet).0.next_header

-- nothing is sent, and only slots are noted; of the host nothing is other than before but its moment, its slots, what
-- raw sockets received, and how long the sender stays known
pub record ReachesRawAndSlots (t : ℤ) (sender : IpAddress) (old : Host) (told : List Event)
    (notes : List Note) (new : Host) : Type 0 where
  pub silent : sent_frames told ≡ []
  pub slots : Slots
  pub noted_slots : List SlotNote
  pub noted : notes ≡ map OfSlots noted_slots
  pub neighbors : Neighbors
  pub places : List Storage
  pub renewed : IsRenewed sender t old.neighbors neighbors
  pub raw_only : AreSameButRaw old.sockets.places places
  pub others : new ≡ with_places (with_neighbors (with_slots (at old t) slots) neighbors) places

abbrev pub DropsWrongRebuiltPayloads : ℤ → List ℕ → Host → List Event → List Note → Host → Type 0
DropsWrongRebuiltPayloads t frame old told notes new = (packet : List ℕ) →
    CarriesV4 old.hardware_addr frame packet → CompletesWrongPayload old packet notes →
    ReachesRawAndSlots t (sender_v4 packet) old told notes new

abbrev pub WrongRebuiltPayloadsAreDropped : Type 0
WrongRebuiltPayloadsAreDropped =
    (t : ℤ) (frame : List ℕ) (old new : Host) (told : List Event) (notes : List Note) →
    Receives t frame old told notes new → DropsWrongRebuiltPayloads t frame old told notes new
