use Rattle.std.proofs.Common.{◌≡◌, List, rules, subst}
use Rattle.ip_address.specs.declared.cidr.IpCidr.{IpCidr}
use Rattle.host_machine.specs.Interface.Step.{UpdatesIpAddrs}
use Rattle.interface.specs.Stands.{HostRefines}
use Rattle.interface_client.proofs.put_ip_addrs.Goals as goal

pub returns : goal.returns
returns c =
    let same : c.update_ip_addrs.ensures.1.items ≡ c.args.list.now.items = search rules in
    subst (λ (items : List IpCidr). HostRefines c.args.interface.now c.update_ip_addrs.new.self (UpdatesIpAddrs items c.update_ip_addrs.result))
    same c.update_ip_addrs.ensures.4
