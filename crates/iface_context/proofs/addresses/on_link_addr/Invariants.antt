use Rattle.std.proofs.Common.{◌≡◌, drop}
use Rattle.host_machine.specs.Context.Addresses.{on_link_addr}
use Rattle.iface_context.proofs.addresses.on_link_addr.Given as goal

abbrev pub invariant-loop-cidr : goal.invariant-loop-cidr
invariant-loop-cidr l = on_link_addr (drop l.cidr-index l.own) l.address ≡ on_link_addr l.own l.address
