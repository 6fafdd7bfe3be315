-- A part of a round over a context, and a packet that is offered to the device.
use Rattle.std.specs.Prelude.{◌≡◌, ℕ, Bool, true, false, List, [], ◌∷◌, Option, Some, None}
use Rattle.net_base.specs.Device.{Event, Asked}
use Rattle.fragmentation.specs.Slots.{Slots}
use Rattle.host_machine.specs.Context.Note.{Note}
use Rattle.host_machine.specs.Context.Host.{Host, SocketSet}
use Rattle.host_machine.specs.Packet.Packet.{Packet}
use Rattle.host_machine.specs.Packet.Frame.{sends}
use Rattle.host_machine.specs.Send.Outcome.{Outcome}
use Rattle.host_machine.specs.Send.Dispatch.{Dispatches}
use Rattle.host_machine.specs.Interface.Parts.{Part}
use Rattle.iface_context.specs.declared.context.Context.{Context}
use Rattle.iface_context.specs.Stands.{host_in}

-- a part of a round, whatever the slots and the sockets are
abbrev pub HasPart : Part → Context → List Event → List Note → Context → Type 0
HasPart part old told notes new = (slots : Slots) (sockets : SocketSet) →
    part (host_in old slots sockets) told notes (host_in new slots sockets)

-- a packet is sent, if there is one and the device grants a transmit token; `granted` unless one was refused
pub data IsOffered (packet : Option Packet) (granted : Bool) (H : Host) (told : List Event)
    (notes : List Note) (new : Host) : Type 0 where
  NoPacket : packet ≡ None → granted ≡ true → told ≡ [] → notes ≡ [] → new ≡ H →
      IsOffered packet granted H told notes new
  NotGranted : (p : Packet) → packet ≡ Some p → granted ≡ false → told ≡ Asked H.moment false ∷ [] → notes ≡ [] →
      new ≡ H → IsOffered packet granted H told notes new
  Goes : (p : Packet) (outcome : Outcome) (frames : List (List ℕ)) →
      packet ≡ Some p → granted ≡ true → Dispatches p outcome H frames notes new →
      told ≡ Asked H.moment true ∷ sends frames → IsOffered packet granted H told notes new
