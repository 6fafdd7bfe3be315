use Rattle.std.proofs.Common.{◌≡◌, true, rules, ap, ◌∙◌}
use Rattle.std.specs.FinMap as map
use Rattle.ip_address.specs.declared.ip.IpAddress.TheVariants.{Ipv4}
use Rattle.iface_tables.specs.Neighbor.{Neighbors, is_later}
use Rattle.host_machine.specs.Context.Host.{no_sockets}
use Rattle.iface_host.specs.Properties.{machine_of}
use Rattle.iface_host.proofs.host.IfaceHost.counts_as_known.Goals as goal

pub returns : goal.returns
returns c =
    let on : c.args.self.now.watch.is_on ≡ true = search rules in
    let keeps : c.args.self.now.watch.guard.keeps_slots ≡ true = search rules in
    let known : c.neighbors.result.now ≡ (machine_of c.args.self.now).neighbors = rw c.deref.ensures at (c.neighbors.ensures no_sockets) in
    rw (on, keeps) (c.is_known.ensures ∙ ap (λ (n : Neighbors). is_later c.args.now (map.get n.known (Ipv4 c.args.address))) known)
