-- When router discovery has work.
use Rattle.std.specs.Prelude.{ℤ, pos, Option, Some, None, if◌then◌else◌}
use Rattle.iface_tables.specs.Slaac.{end_at, sync_required}
use Rattle.net_base.specs.Instants.{earlier_of}
use Rattle.host_machine.specs.Context.Host.{Host}
use Rattle.host_machine.specs.Discovery.RouterSolicitation.{rs_poll_at}

-- a sync of addresses and routes that is required is due immediately
abbrev pub sync_poll_at : Host → Option ℤ
sync_poll_at H = if sync_required H.slaac H.moment then Some (pos 0) else None

-- the earlier of an instant and of those at which router discovery has work
abbrev pub routers_poll_at : Host → Option ℤ → Option ℤ
routers_poll_at H other =
    earlier_of (sync_poll_at H) (earlier_of (rs_poll_at H) (earlier_of (end_at H.slaac H.moment) other))
