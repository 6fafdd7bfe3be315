-- The calls of a script as commands of the host machine.
use Rattle.std.specs.Prelude.{ℤ}
use Rattle.net_base.specs.Time.{IsMoment}
use Rattle.ip_address.specs.declared.ip.IpAddress.{IpAddress}
use Rattle.ip_address.specs.declared.ip.IpAddress.TheVariants as ip
use Rattle.host_machine.specs.declared.command.Command.{Command}
use Rattle.host_machine.specs.declared.command.Command.TheVariants as command
use Rattle.script.specs.declared.line.Line.{Line}
use Rattle.script.specs.declared.line.Line.TheVariants.{Asks}
use Rattle.script.specs.declared.line.Call.{Call}
use Rattle.script.specs.declared.line.Call.TheVariants.{Addr, Gw, Join, Leave, Ingress, Egress, Poll, At}

-- the moment last given, after a call
abbrev pub moment_after : ℤ → Call → ℤ
moment_after last (Poll t budget) = t
moment_after last (At t) = t
moment_after last other = last

-- the command that sets the gateway of the default route of its family
abbrev pub default_route_by : IpAddress → Command
default_route_by (ip.Ipv4 router) = command.AddDefaultIpv4Route router
default_route_by (ip.Ipv6 router) = command.AddDefaultIpv6Route router

-- the command of each call, where `last` is the moment last given
abbrev pub command_of : ℤ → Call → Command
command_of last (Addr networks) = command.UpdateIpAddrs networks
command_of last (Gw router) = default_route_by router
command_of last (Join group) = command.JoinMulticastGroup group
command_of last (Leave group) = command.LeaveMulticastGroup group
command_of last Ingress = command.PollIngressSingle last
command_of last Egress = command.PollEgress last
command_of last (Poll t budget) = command.Poll t budget
command_of last (At t) = command.PollAt t

-- the moment that a call gives, if any, is in range
abbrev pub IsTimelyCall : Call → Type 0
IsTimelyCall (Poll t budget) = IsMoment t
IsTimelyCall (At t) = IsMoment t
IsTimelyCall other = Unit {0}

abbrev pub IsTimelyLine : Line → Type 0
IsTimelyLine (Asks call) = IsTimelyCall call
IsTimelyLine other = Unit {0}
