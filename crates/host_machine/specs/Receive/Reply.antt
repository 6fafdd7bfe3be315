-- The reply of a host to a frame, before it is sent.
use Rattle.std.specs.Prelude.{◌≡◌, List, [], Option, None}
use Rattle.ip_wire.specs.declared.arp.ArpRepr.{ArpRepr}
use Rattle.host_machine.specs.Context.Note.{Note}
use Rattle.host_machine.specs.Context.Host.{Host}
use Rattle.host_machine.specs.Packet.Packet.{Packet}

-- a reply, by the protocol of its frame
pub data Reply : Type 0 where
  Arp : (packet : ArpRepr) → Reply
  Ip : (packet : Packet) → Reply

-- a packet is dropped: no reply, and nothing changes
pub record IsDropped (H : Host) (reply : Option Reply) (notes : List Note) (new : Host) : Type 0 where
  pub silent : reply ≡ None
  pub unnoted : notes ≡ []
  pub unchanged : new ≡ H
