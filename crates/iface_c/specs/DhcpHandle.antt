-- The client of DHCP of a handle.
use Rattle.std.specs.Prelude.{Option}
use Rattle.iface_dhcp.specs.declared.dhcp.Dhcp.{Dhcp}
use Rattle.iface_c.specs.declared.dhcp_handle.IfaceDhcp.{IfaceDhcp}

-- the client that a handle owns, if it owns one
abbrev pub dhcp_in : IfaceDhcp → Option Dhcp
dhcp_in handle = handle.slot.client
