-- What can't tell of a packet.
use Rattle.std.specs.Prelude.{ℕ, ◌≡◌, true, List, None}
use Rattle.ip_address.specs.declared.cidr.IpCidr.{IpCidr}
use Rattle.guard.specs.Guard.{is_ordinary}
use Rattle.net_base.specs.declared.phy.ChecksumCapabilities.{ChecksumCapabilities}
use Rattle.iface_host.specs.Errors.{error_in_ethernet}

-- a frame that is ordinary to a guard, one of UDP or TCP, tells nothing: so nothing is lost where such frames aren't looked at. (A host that
-- keeps no error keeps this)
abbrev pub OrdinaryFramesTellNothing : Type 0
OrdinaryFramesTellNothing =
    (c : ChecksumCapabilities) (own : List IpCidr) (frame : List ℕ) → is_ordinary frame own ≡ true → error_in_ethernet c own frame ≡ None
