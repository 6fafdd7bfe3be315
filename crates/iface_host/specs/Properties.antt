-- What is set of a host while it runs, and what is read of it.
use Rattle.std.specs.Prelude.{ℕ, ℤ, ◌≡◌, Bool, Option, Some, None, Ok}
use Rattle.ip_address.specs.declared.ethernet_address.EthernetAddress.{EthernetAddress}
use Rattle.ip_address.specs.declared.hardware.HardwareAddress.{HardwareAddress}
use Rattle.ip_address.specs.declared.hardware.HardwareAddress.TheVariants.{Ethernet, Ip}
use Rattle.ip_address.specs.declared.ip.IpAddress.{IpAddress}
use Rattle.host_machine.specs.Interface.Step.{SetsHardwareAddr}
use Rattle.host_machine.specs.Context.Addresses as machine
use Rattle.host_machine.specs.Interface.Config.{hardware_refusal_of}
use Rattle.host_machine.specs.Context.Host.{Host as Machine, no_sockets}
use Rattle.host_machine.specs.declared.results.HardwareError.{HardwareError}
use Rattle.host_machine.specs.declared.results.HardwareError.TheVariants as error
use Rattle.interface.specs.Stands.{host_with}
use Rattle.iface_host.specs.declared.host.IfaceHost.{IfaceHost}
use Rattle.iface_host.specs.declared.refusal.Refusal.{Refusal}
use Rattle.iface_host.specs.declared.refusal.Refusal.TheVariants.{NotThere, NotUnicast}

-- what it is set to, and what it learnt: the machine's host, without its sockets
abbrev pub machine_of : IfaceHost → Machine
machine_of host = host_with host.interface.value no_sockets

-- addresses that are routed to it count as its own, or don't
abbrev pub SetsAnyIp : Bool → Machine → Machine → Type 0
SetsAnyIp on H H' = H' ≡ record H { any_ip = on }

abbrev pub any_ip_of : IfaceHost → Bool
any_ip_of host = (machine_of host).any_ip

-- fragments wait so long for the others
abbrev pub SetsTimeout : ℕ → Machine → Machine → Type 0
SetsTimeout timeout H H' = H' ≡ record H { reassembly_timeout = timeout }

abbrev pub timeout_of : IfaceHost → ℕ
timeout_of host = (machine_of host).reassembly_timeout

-- its address on Ethernet is another one
abbrev pub SetsHardware : EthernetAddress → Machine → Machine → Type 0
SetsHardware address = SetsHardwareAddr (Ethernet address) (Ok tt)

-- an address on Ethernet, if it is one
abbrev pub ethernet_in : HardwareAddress → Option EthernetAddress
ethernet_in (Ethernet address) = Some address
ethernet_in Ip = None

abbrev pub hardware_of : IfaceHost → Option EthernetAddress
hardware_of host = ethernet_in (machine_of host).hardware_addr

-- the refusal by which an error is told
abbrev pub of_error : Option HardwareError → Option Refusal
of_error None = None
of_error (Some error.WrongMedium) = Some NotThere
of_error (Some error.NotUnicast) = Some NotUnicast

-- an address on Ethernet: the medium has none, or it isn't unicast
abbrev pub hardware_refusal : IfaceHost → EthernetAddress → Option Refusal
hardware_refusal host address = of_error (hardware_refusal_of (machine_of host).capabilities (Ethernet address))

-- when its addresses and routes were last those that routers advertise
abbrev pub slaac_updated_at : IfaceHost → ℤ
slaac_updated_at host = (machine_of host).slaac_updated_at

-- whether it is in a group
abbrev pub is_in : IfaceHost → IpAddress → Bool
is_in host group = machine.has_multicast_group (machine_of host) group
