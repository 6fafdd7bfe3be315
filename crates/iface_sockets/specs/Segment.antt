-- A segment, and the socket that accepted it.
use Rattle.std.specs.Prelude.{◌≡◌, ℕ, List, slice_set, Option}
use Rattle.ip_wire.specs.declared.ip_packet.IpRepr.{IpRepr}
use Rattle.ip_wire.specs.declared.tcp.TcpRepr.{TcpRepr}
use Rattle.host_machine.specs.Context.Host.{Storage}
use Rattle.host_machine.specs.Sockets.Delivery.{IsFirst}
use Rattle.host_machine.specs.Sockets.Tcp.{accepts, storage_after_delivery, socket_reply}

-- the first socket that accepts it got it, and gave this answer
pub record IsTaken (r : IpRepr) (t : TcpRepr) (payload : List ℕ) (old new : List Storage)
    (answer : Option TcpRepr) : Type 0 where
  pub index : ℕ
  pub place : Storage
  pub first : IsFirst (accepts r t) old index place
  pub changed : new ≡ slice_set old index (storage_after_delivery r t payload place)
  pub answers : answer ≡ socket_reply t payload place
