use Rattle.iface_dhcp.proofs.Prefixes.{leased_same}
use Rattle.iface_dhcp.proofs.apply.leased_by.Goals as goal

pub returns : goal.returns
returns c = leased_same c.args.lease.now c.prefix_len_of-prefix_len.result _ c.prefix_len_of-prefix_len.ensures.value
