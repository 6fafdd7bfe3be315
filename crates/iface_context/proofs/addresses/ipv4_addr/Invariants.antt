use Rattle.std.proofs.Common.{◌≡◌, drop}
use Rattle.host_machine.specs.Context.Addresses.{ipv4_addr}
use Rattle.iface_context.proofs.addresses.ipv4_addr.Given as goal

abbrev pub invariant-loop-cidr : goal.invariant-loop-cidr
invariant-loop-cidr l = ipv4_addr (drop l.cidr-index l.own) ≡ ipv4_addr l.own
