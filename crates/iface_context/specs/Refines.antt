-- How code follows a rule of the host machine, by what it gives out: a frame in the transmit buffer, events of the
-- device, or the frame of a reply.
use Rattle.std.specs.Prelude.{ℕ, List, ◌≡◌, Option}
use Rattle.host_machine.specs.Context.Note.{Note}
use Rattle.fragmentation.specs.Slots.{Slots}
use Rattle.host_machine.specs.Context.Host.{Host, SocketSet, with_slots}
use Rattle.host_machine.specs.Packet.Frame.{frames_in}
use Rattle.iface_context.specs.declared.context.Context.{Context}
use Rattle.iface_context.specs.Stands.{host_in}
use Rattle.net_base.specs.Device.{Event}
use Rattle.fragmentation.specs.declared.key.FragKey.{FragKey}
use Rattle.fragmentation.specs.Assembly.{Assembly}
use Rattle.fragmentation.specs.Stands.{StandForSlots}
use Rattle.host_machine.specs.Receive.Reply.{Reply}
use Rattle.host_machine.specs.Receive.Response.{Response}

-- whatever the slots and the sockets are, a rule that sends the frame in the buffer, if there is one, leads from the
-- host before to the one afterwards
pub record RefinesBuilding (buffer : List ℕ) (Rule : Host → List (List ℕ) → List Note → Host → Type 0)
    (old new : Context) : Type 0 where
  pub notes : List Note
  pub follows : (slots : Slots) (sockets : SocketSet) →
      Rule (host_in old slots sockets) (frames_in buffer) notes (host_in new slots sockets)

-- the device's events, which with some notes lead by the rule to the state afterwards
pub record RefinesTelling {D State : Type 0} (tells : D → List Event → D → Type 0) (device device' : D)
    (Rule : List Event → List Note → State → Type 0) (new : State) : Type 0 where
  pub told : List Event
  pub notes : List Note
  pub tells_it : tells device told device'
  pub follows : Rule told notes new

-- whatever the slots are, which stay the same: a rule is applied, and the frame in the buffer, if there is one, is sent
-- in response; that leads from one host to the other
pub record RefinesReplying (buffer : List ℕ) (Takes : Host → Option Reply → List Note → Host → Type 0)
    (old new : Host) : Type 0 where
  pub notes : List Note
  pub response : (slots : Slots) → Response Takes (with_slots old slots) (frames_in buffer) notes (with_slots new slots)

-- a host that a context, the assemblers for fragments and the sockets stand for
pub record StandsFor (c : Context) (places : List (Assembly FragKey)) (sockets : SocketSet) (H : Host) : Type 0 where
  pub slots : Slots
  pub stand : StandForSlots places slots
  pub same : H ≡ host_in c slots sockets

-- a rule is applied, and the frame in the buffer is sent in response: that leads to a host that satisfies `after`
pub record RefinementReplying (buffer : List ℕ) (Takes : Host → Option Reply → List Note → Host → Type 0) (H : Host)
    (after : Host → Type 0) : Type 0 where
  pub notes : List Note
  pub host : Host
  pub response : Response Takes H (frames_in buffer) notes host
  pub stands : after host

-- that, from each host before
abbrev pub HostRefinesReplying : List ℕ → (Host → Option Reply → List Note → Host → Type 0) →
    (Host → Type 0) → (Host → Type 0) → Type 0
HostRefinesReplying buffer Takes before after = (H : Host) → before H → RefinementReplying buffer Takes H after
