-- Which host an interface with its sockets stands for.
use Rattle.std.specs.Prelude.{◌<◌, List}
use Rattle.std.specs.Borrow.{Bor}
use Rattle.fragmentation.specs.Assembly.{Assembly}
use Rattle.fragmentation.specs.declared.key.FragKey.{FragKey}
use Rattle.socket_set.specs.SocketSet.{Sockets}
use Rattle.host_machine.specs.Context.Host.{Host, SocketSet}
use Rattle.iface_tables.specs.declared.route.Route.{Route}
use Rattle.iface_tables.specs.Store.{Stored}
use Rattle.iface_context.specs.declared.context.Context.{Context}
use Rattle.iface_context.specs.Multicast.{interval_of}
use Rattle.iface_tables.specs.declared.report.IgmpReportState.{IgmpReportState}
use Rattle.iface_context.specs.Stands.{host_of}
use Rattle.iface_context.specs.Stands as context
use Rattle.iface_context.specs.Refines as processed
use Rattle.interface.specs.declared.interface.Interface.{Interface}

-- the host of an interface's context with these sockets, without the contents of its slots: its buffers have no meaning
abbrev pub host_with : Interface → SocketSet → Host
host_with i sockets = host_of i.context sockets

-- the slots in which an interface reassembles datagrams
abbrev pub slots_in : Interface → List (Assembly FragKey)
slots_in i = i.fragments

-- an interface with others
abbrev pub with_slots_in : Interface → List (Assembly FragKey) → Interface
with_slots_in i slots = record i { fragments = slots }

-- an interface with another context
abbrev pub with_context : Interface → Context → Interface
with_context i c = record i { context = c }

-- an interface with other routes
abbrev pub with_routes : Interface → Stored Route → Interface
with_routes i routes = record i { context = context.with_routes i.context routes }

-- a host that an interface with its sockets stands for: its assemblers stand for that host's slots
abbrev pub StandsFor : Interface → Sockets (Bor (Unit {0})) → Host → Type 0
StandsFor i s H = processed.StandsFor i.context i.fragments s H

-- each host that an interface stood for changes in this way
abbrev pub Becomes : Interface → Interface → (Host → Host) → Type 0
Becomes old new change = (sockets : SocketSet) (H : Host) → StandsFor old sockets H → StandsFor new sockets (change H)

-- from each host that an interface stood for, a rule leads to one that it stands for
pub record Refinement (Rule : Host → Host → Type 0) (H : Host) (after : Host → Type 0) : Type 0 where
  pub host : Host
  pub follows : Rule H host
  pub stands : after host

abbrev pub HostRefines : Interface → Interface → (Host → Host → Type 0) → Type 0
HostRefines old new Rule = (sockets : SocketSet) (H : Host) →
    StandsFor old sockets H → Refinement Rule H (StandsFor new sockets)

-- the reports of an answer to a query are less than an hour apart
abbrev pub IsPaced : IgmpReportState → Type 0
IsPaced report = interval_of report < 3600000000
