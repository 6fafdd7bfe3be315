use Rattle.std.proofs.Common.{◌∙◌, ap, sym}
use Rattle.iface_c.specs.Addresses.{network_of}
use Rattle.iface_c.proofs.Networks.{ipv4_network, ipv6_network}
use Rattle.iface_c.proofs.addresses.network_of.Goals as goal

pub returns-else-prefix_len-gt32 : goal.returns-else-prefix_len-gt32
returns-else-prefix_len-gt32 c = ipv4_network c.in-Ipv4.address c.args.prefix_len _ ∙ ap (λ a. network_of a c.args.prefix_len) (sym c.in-Ipv4.is)

pub returns-else-prefix_len-gt128 : goal.returns-else-prefix_len-gt128
returns-else-prefix_len-gt128 c = ipv6_network c.in-Ipv6.address c.args.prefix_len _ ∙ ap (λ a. network_of a c.args.prefix_len) (sym c.in-Ipv6.is)
