-- The hardware address that packets for an address are sent to, or why they can't be sent yet.
use Rattle.std.specs.Prelude.{ℕ, ◌≡◌, ◌+◌, ◌≤◌, List, length, Err}
use Rattle.net_base.specs.Checksum.{ip_mtu_of}
use Rattle.ip_address.specs.Hardware.{IsOf}
use Rattle.ip_address.specs.declared.hardware.HardwareAddress.{HardwareAddress}
use Rattle.ip_address.specs.declared.ip.IpAddress.{IpAddress}
use Rattle.ip_address.specs.declared.ip.IpAddress.TheVariants.{Ipv4, Ipv6}
use Rattle.ip_wire.specs.declared.ethernet.EthernetProtocol.{EthernetProtocol}
use Rattle.ip_wire.specs.declared.ethernet.EthernetProtocol.TheVariants as protocol
use Rattle.fragmentation.specs.Slots.{Slots}
use Rattle.host_machine.specs.Context.Note.{Note}
use Rattle.host_machine.specs.Context.Host.{Host, SocketSet}
use Rattle.host_machine.specs.Packet.Packet.{Packet}
use Rattle.host_machine.specs.Packet.Frame.{link_header}
use Rattle.host_machine.specs.Send.Outcome.{Outcome}
use Rattle.host_machine.specs.Send.Dispatch.{Emits, SendsOver, destination_of}
use Rattle.host_machine.specs.declared.results.DispatchError.{DispatchError}
use Rattle.iface_context.specs.declared.context.Context.{Context}
use Rattle.iface_context.specs.Refines.{RefinesBuilding}
use Rattle.iface_context.specs.Stands.{host_in}

-- the EtherType of frames that carry packets for an address
abbrev pub ethertype_to : IpAddress → EthernetProtocol
ethertype_to (Ipv4 a) = protocol.Ipv4
ethertype_to (Ipv6 a) = protocol.Ipv6

-- packets for an address go to a hardware address, if the device can send them there: what is emitted to it is sent by
-- the rule of the medium
pub record IsReached (c : Context) (a : IpAddress) (h : HardwareAddress) : Type 0 where
  pub of_medium : IsOf c.capabilities.medium h
  pub sends : (id : ℕ) (p : Packet) (outcome : Outcome) (slots : Slots) (sockets : SocketSet)
      (frames : List (List ℕ)) (notes : List Note) (new : Host) →
      destination_of p ≡ a → Emits id p h outcome (host_in c slots sockets) frames notes new →
      SendsOver id c.hardware_addr p outcome (host_in c slots sockets) frames notes new

-- a frame begins with the header of the link, from the host to where packets for an address go, and has room for a
-- packet
pub record IsBegun (a : IpAddress) (c : Context) (out : List ℕ) : Type 0 where
  pub destination : HardwareAddress
  pub reached : IsReached c a destination
  pub header : out ≡ link_header c.hardware_addr destination (ethertype_to a)
  pub room : length out + ip_mtu_of c.capabilities ≤ 1514

-- no packet for an address can be sent yet, for this reason: the frame in the buffer, if there is one, is sent instead
abbrev pub IsRefused : DispatchError → IpAddress → List ℕ → Context → Context → Type 0
IsRefused error a out old new = (id : ℕ) (p : Packet) → destination_of p ≡ a →
    RefinesBuilding out (SendsOver id old.hardware_addr p (Err error)) old new
