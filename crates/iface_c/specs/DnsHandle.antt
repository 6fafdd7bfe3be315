-- The client of DNS of a handle.
use Rattle.std.specs.Prelude.{Option}
use Rattle.iface_dns.specs.declared.dns.Dns.{Dns}
use Rattle.iface_c.specs.declared.dns_handle.IfaceDns.{IfaceDns}

-- the client that a handle owns, if it owns one
abbrev pub dns_in : IfaceDns → Option Dns
dns_in handle = handle.slot.client
