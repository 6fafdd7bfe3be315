use Rattle.host_machine.specs.Context.Host.{no_sockets}
use Rattle.iface_host.proofs.RefusalCalls.{ethernet_told}
use Rattle.iface_host.proofs.host.IfaceHost.hardware_address.Goals as goal

pub returns-in-Some-Ethernet : goal.returns-in-Some-Ethernet
returns-in-Some-Ethernet c = rw (c.in-Some-Ethernet.is, c.in-Some-Ethernet.field-0-is) at
    (ethernet_told _ c.hardware_addr.result (rw c.deref.ensures at (c.hardware_addr.ensures no_sockets)))

pub returns-in-Some-Ip : goal.returns-in-Some-Ip
returns-in-Some-Ip c = rw (c.in-Some-Ip.is, c.in-Some-Ip.field-0-is) at
    (ethernet_told _ c.hardware_addr.result (rw c.deref.ensures at (c.hardware_addr.ensures no_sockets)))

pub returns-in-None : goal.returns-in-None
returns-in-None c = rw c.in-None.is at (ethernet_told _ c.hardware_addr.result (rw c.deref.ensures at (c.hardware_addr.ensures no_sockets)))
