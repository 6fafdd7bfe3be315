use Rattle.std.proofs.Common.{List, ap, ◌∙◌}
use Rattle.ip_address.specs.declared.cidr.IpCidr.{IpCidr}
use Rattle.host_machine.specs.Context.Host.{in_same_network, no_sockets}
use Rattle.iface_host.proofs.host.IfaceHost.is_near.Goals as goal

pub returns : goal.returns
returns c = c.is_on_link.ensures
    ∙ ap (λ (list : List IpCidr). in_same_network list c.args.address.now) (rw c.deref.ensures at (c.ip_addrs.ensures.value no_sockets))
