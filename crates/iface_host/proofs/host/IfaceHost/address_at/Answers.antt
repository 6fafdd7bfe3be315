use Rattle.std.proofs.Common.{List, ap, ◌∙◌}
use Rattle.std.specs.Prelude.{slice_get}
use Rattle.ip_address.specs.declared.cidr.IpCidr.{IpCidr}
use Rattle.host_machine.specs.Context.Host.{no_sockets}
use Rattle.iface_host.proofs.host.IfaceHost.address_at.Goals as goal

pub returns : goal.returns
returns c = c.cidr_at.ensures ∙ ap (λ (list : List IpCidr). slice_get list c.args.index) (rw c.deref.ensures at (c.ip_addrs.ensures.value no_sockets))
