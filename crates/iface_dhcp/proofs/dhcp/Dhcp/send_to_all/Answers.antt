use Rattle.std.proofs.Common.{◌≡◌, None, refl, subst}
use Rattle.iface_host.specs.declared.host.IfaceHost.{IfaceHost}
use Rattle.iface_dhcp.specs.Place.{KeepsPlace}
use Rattle.iface_dhcp.specs.Send.{IsOpen, IsOpened, NotOpened}
use Rattle.iface_host.specs.TableRefusals.{opening_refusal}
use Rattle.iface_dhcp.proofs.Places.{unopened}
use Rattle.iface_dhcp.proofs.dhcp.Dhcp.send_to_all.Goals as goal

pub returns-in-Some : goal.returns-in-Some
returns-in-Some c = IsOpen c.in-Some.number c.in-Some.is refl c.send_packet.ensures

pub returns-in-Ok : goal.returns-in-Ok
returns-in-Ok c =
    let closed : c.args.self.now.broadcast ≡ None = c.in_default.is in
    IsOpened c.in-Ok.number c.leave_place.new.self c.leave_place.new.host c.open_raw.new.self closed c.leave_place.ensures
    c.in-Ok.ensures.opened refl c.send_packet-in-Ok.ensures

pub returns-in-Err : goal.returns-in-Err
returns-in-Err c =
    let closed : c.args.self.now.broadcast ≡ None = c.in_default.is in
    NotOpened c.in-Err.refusal c.leave_place.new.self c.leave_place.new.host closed c.leave_place.ensures
    (unopened (opening_refusal c.leave_place.new.host) c.in-Err.refusal c.in-Err.ensures.why c.in-Err.ensures.memory) refl
    (subst (λ (h : IfaceHost). KeepsPlace c.leave_place.new.self c.keep_place.new.self h c.keep_place.new.host) c.in-Err.ensures.refused
    c.keep_place.ensures)
