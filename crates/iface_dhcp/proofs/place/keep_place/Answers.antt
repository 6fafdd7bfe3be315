use Rattle.std.proofs.Common.{refl}
use Rattle.iface_dhcp.specs.Dhcp.{Kept}
use Rattle.iface_dhcp.proofs.place.keep_place.Goals as goal

pub returns-in-Ok : goal.returns-in-Ok
returns-in-Ok c = Kept c.in-Ok.number refl c.in-Ok.ensures.opened
