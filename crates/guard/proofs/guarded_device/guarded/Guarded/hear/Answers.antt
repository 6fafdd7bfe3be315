use Rattle.std.proofs.Common.{◌∙◌, refl, sym, take}
use Rattle.guard.specs.Details.Guarded.{IsDropped, IsPassed}
use Rattle.guard.proofs.guarded_device.guarded.Guarded.hear.Goals as goal

pub returns-then-admits-clause-heard : goal.returns-then-admits-clause-heard
returns-then-admits-clause-heard g c =
    IsPassed c.in-Some.len refl c.in-Some.ensures.fits c.in-Some.ensures.told (sym c.admits.ensures.admitted ∙ c.if-admits.true)
    c.admits.ensures.watch

pub returns-else-admits-clause-heard : goal.returns-else-admits-clause-heard
returns-else-admits-clause-heard g c =
    IsDropped (take c.in-Some.len c.receive.new.buffer) refl c.in-Some.ensures.told (sym c.admits.ensures.admitted ∙ c.if-admits.false)
    c.admits.ensures.watch
