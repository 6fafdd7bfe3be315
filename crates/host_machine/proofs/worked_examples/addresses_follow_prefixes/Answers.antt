use Rattle.std.proofs.Common.{refl}
use Rattle.ip_address.specs.LinkPrefix.{identifier}
use Rattle.host_machine.proofs.worked_examples.addresses_follow_prefixes.Goals as goal

pub returns : goal.returns
unfolding identifier
returns c = record {
  addresses = refl;
  routes = refl;
  neighbors = refl;
  learns = refl;
  moment = refl;
  without_route = refl;
  with_address = refl;
  without_address = refl;
  nothing_new = refl;
}
