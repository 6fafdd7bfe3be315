use Rattle.std.proofs.Common.{◌≡◌, ℕ, Bool, false, Option, sym, subst}
use Rattle.iface_dhcp.specs.Send.{ClosesIdle, ClosesOf, needs_raw}
use Rattle.iface_dhcp.proofs.dhcp.Dhcp.close_sent.Goals as goal

pub returns-in_default : goal.returns-in_default
returns-in_default c =
    subst (λ (b : Option ℕ). ClosesOf b c.args.self.now c.keep_place.new.self c.args.host.now c.keep_place.new.host) (sym c.in_default.is)
    c.keep_place.ensures

pub returns : goal.returns
returns c =
    let n = c.in-Some.number in
    let idle : needs_raw n c.args.self.now c.args.host.now ≡ false = cc in
    subst (λ (b : Option ℕ). ClosesOf b c.args.self.now c.keep_place-2.new.self c.args.host.now c.keep_place-2.new.host) (sym c.in-Some.is)
    (subst (λ (w : Bool). ClosesIdle w n c.args.self.now c.keep_place-2.new.self c.args.host.now c.keep_place-2.new.host) (sym idle)
    (record { between = c.close_one.new.host; closed = c.close_one.ensures; kept = c.keep_place-2.ensures }))
