use Rattle.std.proofs.Common.{◌≡◌, Bool, true, subst}
use Rattle.ip_address.specs.Ipv4.{is_broadcast}
use Rattle.iface_dhcp.specs.Send.{SendsBy}
use Rattle.iface_dhcp.proofs.dhcp.Dhcp.send_by.Goals as goal

pub returns-then-is_broadcast : goal.returns-then-is_broadcast
returns-then-is_broadcast c =
    let to_all : true ≡ is_broadcast c.args.message.now.dst = cc in
    subst (λ (b : Bool). SendsBy b c.args.message.now c.send_to_all.result c.args.self.now c.send_to_all.new.self c.args.host.now
    c.send_to_all.new.host) to_all c.send_to_all.ensures
