use Rattle.std.proofs.Common.{List, subst}
use Rattle.ip_address.specs.declared.cidr.IpCidr.{IpCidr}
use Rattle.host_machine.specs.Interface.Step.{UpdatesIpAddrs}
use Rattle.interface.specs.Stands.{HostRefines}
use Rattle.host.proofs.drive.put_ip_addrs.Goals as goal

pub returns : goal.returns
returns c =
    subst (λ (items : List IpCidr). HostRefines c.args.interface.now c.take_ip_addrs.new.interface (UpdatesIpAddrs items c.take_ip_addrs.result))
    c.copied.ensures c.take_ip_addrs.ensures
