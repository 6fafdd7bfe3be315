use Rattle.std.proofs.Common.{◌≡◌, drop}
use Rattle.host_machine.specs.Context.Addresses.{link_local_addr}
use Rattle.iface_context.proofs.addresses.link_local_addr.Given as goal

abbrev pub invariant-loop-cidr : goal.invariant-loop-cidr
invariant-loop-cidr l = link_local_addr (drop l.cidr-index l.own) ≡ link_local_addr l.own
