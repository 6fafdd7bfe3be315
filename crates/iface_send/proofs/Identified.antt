-- A packet is sent with the identification that was taken for it.
use Rattle.std.proofs.Common.{◌≡◌, ℕ, List, subst}
use Rattle.fragmentation.specs.Slots.{Slots}
use Rattle.host_machine.specs.Context.Note.{Note}
use Rattle.host_machine.specs.Context.Host.{Host, SocketSet, with_slots, with_next_id}
use Rattle.host_machine.specs.Packet.Packet.{Packet}
use Rattle.host_machine.specs.Send.Outcome.{Outcome}
use Rattle.host_machine.specs.Send.Dispatch.{SendsOver}
use Rattle.iface_context.specs.declared.context.Context.{Context}
use Rattle.iface_context.specs.Stands.{host_in, host_of}

pub with_id : (id : ℕ) (old taken : Context) (p : Packet) (outcome : Outcome) (frames : List (List ℕ)) (notes : List Note) (new : Host)
    (slots : Slots) (sockets : SocketSet) → id ≡ old.ipv4_id →
    ((ss : SocketSet) → host_of taken ss ≡ with_next_id (host_of old ss)) →
    SendsOver id taken.hardware_addr p outcome (host_in taken slots sockets) frames notes new →
    SendsOver old.ipv4_id old.hardware_addr p outcome (with_next_id (host_in old slots sockets)) frames notes new
with_id id old taken p outcome frames notes new slots sockets value is sends =
    subst (λ (n : ℕ). SendsOver n old.hardware_addr p outcome (with_next_id (host_in old slots sockets)) frames notes new) value
    (subst (λ (K : Host). SendsOver id K.hardware_addr p outcome (with_slots K slots) frames notes new) (is sockets) sends)
