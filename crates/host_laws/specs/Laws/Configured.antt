-- What configuration calls set, and what a host has at first.
use Rattle.std.specs.Prelude.{◌≡◌, ◌≢◌, ℕ, ℤ, Bool, false, List, [], Ok, ◌⊎◌}
use Rattle.std.specs.FinMap as map
use Rattle.arrayvec.specs.ArrayVec.{ArrayVec}
use Rattle.net_base.specs.Device.{Event}
use Rattle.net_base.specs.declared.phy.DeviceCapabilities.{DeviceCapabilities}
use Rattle.ip_address.specs.declared.hardware.HardwareAddress.{HardwareAddress}
use Rattle.ip_address.specs.declared.ip.IpAddress.{IpAddress}
use Rattle.iface_tables.specs.declared.route.Route.{Route}
use Rattle.iface_tables.specs.Groups.{AreDistinct}
use Rattle.iface_tables.specs.declared.groups.Group.{Group}
use Rattle.iface_tables.specs.declared.groups.GroupState.{GroupState}
use Rattle.iface_tables.specs.declared.groups.GroupState.TheVariants.{Joining, Joined, Leaving}
use Rattle.host_machine.specs.declared.command.Answer.{Answer}
use Rattle.host_machine.specs.declared.command.Answer.TheVariants as answer
use Rattle.host_machine.specs.declared.command.Command.{Command}
use Rattle.host_machine.specs.declared.command.Command.TheVariants.{JoinMulticastGroup, LeaveMulticastGroup, SetAnyIp, UpdateRoutes}
use Rattle.host_machine.specs.Context.Note.{Note}
use Rattle.host_machine.specs.Context.Host.{Host, SocketSet}
use Rattle.host_machine.specs.Interface.Config.{first_host}
use Rattle.host_machine.specs.Interface.Step.{Act, Step}
use Rattle.host_laws.specs.Laws.Restraint.Queries.{HasGroup}

-- a step of a command has this host after it, whatever else it does
abbrev pub Becomes : Command → (old new : Host) → Type 0
Becomes command old new =
    (answer : Answer) (told : List Event) (acts : List Act) (notes : List Note) (after : Host) →
    Step command answer old told acts notes after → after ≡ new

-- an update of the routes leaves just the routes that it lists, and changes nothing else
abbrev pub RoutesAreSet : Type 0
RoutesAreSet = (list : ArrayVec Route) (old : Host) → Becomes (UpdateRoutes list) old (record old { routes = list.items })

-- AnyIP is as it is set, and nothing else changes
abbrev pub AnyIpIsSet : Type 0
AnyIpIsSet = (is_on : Bool) (old : Host) → Becomes (SetAnyIp is_on) old (record old { any_ip = is_on })

-- each group but one is in both tables in the same state, or in neither
abbrev pub KeepsOthers : IpAddress → (old new : List Group) → Type 0
KeepsOthers a old new =
    (b : IpAddress) (state : GroupState) → b ≢ a →
    (HasGroup old b state → HasGroup new b state) × (HasGroup new b state → HasGroup old b state)

-- after a join that succeeds a host is in the group: its join was reported, or is pending. It is pending if the group
-- wasn't there. The other groups stay
pub record IsIn (a : IpAddress) (old new : List Group) : Type 0 where
  pub member : HasGroup new a Joining ⊎ HasGroup new a Joined
  pub pending : ((state : GroupState) → HasGroup old a state → ⊥) → HasGroup new a Joining
  pub others : KeepsOthers a old new

-- after a leave that succeeds it is not: the group isn't there, or its leave is pending. It is pending if the join was
-- reported. The other groups stay
pub record IsOut (a : IpAddress) (old new : List Group) : Type 0 where
  pub member : (state : GroupState) → HasGroup new a state → state ≡ Leaving
  pub pending : HasGroup old a Joined → HasGroup new a Leaving
  pub others : KeepsOthers a old new

-- so it is with each join and leave, where no group is twice in the table
abbrev pub GroupsAreJoined : Type 0
GroupsAreJoined =
    (a : IpAddress) (old new : Host) (told : List Event) (acts : List Act) (notes : List Note) →
    Step (JoinMulticastGroup a) (answer.JoinMulticastGroup (Ok tt)) old told acts notes new → AreDistinct old.groups →
    IsIn a old.groups new.groups

abbrev pub GroupsAreLeft : Type 0
GroupsAreLeft =
    (a : IpAddress) (old new : Host) (told : List Event) (acts : List Act) (notes : List Note) →
    Step (LeaveMulticastGroup a) (answer.LeaveMulticastGroup (Ok tt)) old told acts notes new → AreDistinct old.groups →
    IsOut a old.groups new.groups

-- a host has no address of its own and no route, takes no packet to another's address, knows no neighbour, is in no
-- group, and has neither a slot in use nor a pending fragment
pub record HasNothing (H : Host) : Type 0 where
  pub addresses : H.ip_addrs ≡ []
  pub any_ip : H.any_ip ≡ false
  pub routes : H.routes ≡ []
  pub neighbors : H.neighbors.known ≡ map.empty
  pub groups : H.groups ≡ []
  pub slots : H.slots.held ≡ map.empty
  pub pending : H.left ≡ []

-- so it is with each host at first
abbrev pub HostsBeginWithNothing : Type 0
HostsBeginWithNothing =
    (c : DeviceCapabilities) (h : HardwareAddress) (seed : ℕ) (slaac : Bool) (t : ℤ) (sockets : SocketSet) →
    HasNothing (first_host c h seed slaac t sockets)
