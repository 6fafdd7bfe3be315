use Rattle.std.proofs.Common.{◌≡◌, Bool, true, false}
use Rattle.std.specs.Prelude.{is_some}
use Rattle.iface_dhcp.proofs.Places.{kept_already, kept_now}
use Rattle.iface_dhcp.proofs.dhcp.Dhcp.keep_place.Goals as goal

pub returns-then-is_none : goal.returns-then-is_none
returns-then-is_none c =
    let none : is_some c.args.self.now.kept ≡ false = cc in
    kept_now c.args.self.now c.keep_place-self.result c.args.host.now c.keep_place-self.new.host none c.keep_place-self.ensures

pub returns-else-is_none : goal.returns-else-is_none
returns-else-is_none c =
    let some : is_some c.args.self.now.kept ≡ true = cc in
    kept_already c.args.self.now c.args.host.now some
