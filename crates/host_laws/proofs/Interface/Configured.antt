-- What configuration calls set, and what a host has at first.
use Rattle.std.proofs.Common.{refl}
use Rattle.host_machine.specs.Interface.Step.{TookAnyIp, UpdatedRoutes}
use Rattle.host_laws.specs.Laws.Configured.{AnyIpIsSet, HostsBeginWithNothing, RoutesAreSet}

pub routes_set : RoutesAreSet
routes_set list old answer told acts notes after UpdatedRoutes = refl

pub any_ip_set : AnyIpIsSet
any_ip_set is_on old answer told acts notes after TookAnyIp = refl

pub begins_with_nothing : HostsBeginWithNothing
begins_with_nothing c h seed slaac t sockets = record {
  addresses = refl;
  any_ip = refl;
  routes = refl;
  neighbors = refl;
  groups = refl;
  slots = refl;
  pending = refl;
}
