use Rattle.iface_dhcp.proofs.Prefixes.{network_same}
use Rattle.iface_dhcp.proofs.apply.network_of.Goals as goal

pub returns : goal.returns
returns c = network_same c.args.route.now c.width_of-prefix_len.result _ c.width_of-prefix_len.ensures.value
