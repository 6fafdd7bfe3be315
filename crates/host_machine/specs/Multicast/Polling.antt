-- When groups have something to report.
use Rattle.std.specs.Prelude.{ℤ, pos, Option}
use Rattle.std.specs.Option.{option_map}
use Rattle.iface_tables.specs.declared.groups.GroupState.{GroupState}
use Rattle.iface_tables.specs.declared.groups.GroupState.TheVariants.{Joining, Leaving}
use Rattle.iface_tables.specs.Groups.{first_in}
use Rattle.net_base.specs.Instants.{earlier_of}
use Rattle.host_machine.specs.Context.Host.{Host}
use Rattle.host_machine.specs.Multicast.Igmp.{igmp_poll_at}
use Rattle.host_machine.specs.Multicast.Mld.{mld_timeout_of}

-- while a group is in a state that is to be reported to routers, that is due immediately
abbrev pub group_poll_at : GroupState → Host → Option ℤ
group_poll_at state H = option_map (λ a. pos 0) (first_in state H.groups)

-- the earlier of an instant and of those at which groups have something to report
abbrev pub groups_poll_at : Host → Option ℤ → Option ℤ
groups_poll_at H other = earlier_of (group_poll_at Joining H) (earlier_of (group_poll_at Leaving H)
    (earlier_of (igmp_poll_at H) (earlier_of (mld_timeout_of H.mld_report) other)))
