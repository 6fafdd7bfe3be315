-- The host of a handle.
use Rattle.std.specs.Prelude.{Option}
use Rattle.iface_host.specs.declared.host.IfaceHost.{IfaceHost}
use Rattle.iface_c.specs.declared.handle.Iface.{Iface}

-- the host that a handle owns, if it owns one
abbrev pub host_in : Iface → Option IfaceHost
host_in handle = handle.slot.host
