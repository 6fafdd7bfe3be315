use Rattle.std.proofs.Common.{refl, sym, ap, ◌∙◌}
use Rattle.host_machine.specs.Context.Host.{with_slots}
use Rattle.iface_discovery.proofs.router.process_router.Goals as goal

pub returns-in-RouterSolicit : goal.returns-in-RouterSolicit
returns-in-RouterSolicit c = λ slots sockets. rw c.in-RouterSolicit.is refl

pub returns-then-is_valid_advertisement : goal.returns-then-is_valid_advertisement
returns-then-is_valid_advertisement c = λ slots sockets.
    let learns = rw (c.from_secs-lifetime.ensures, c.from.ensures) at (c.process_advertisement.ensures sockets) in
    rw (c.in-RouterAdvert.is, sym c.is_valid_advertisement.ensures ∙ c.if-is_valid_advertisement.true) (ap (λ H. with_slots H slots) learns)
