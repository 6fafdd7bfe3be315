use Rattle.guard.proofs.OrdinaryLemmas.{leaves_ordinary}
use Rattle.guard.proofs.watch.Watch.leaves_ordinary.Goals as goal

pub returns : goal.returns
returns c = λ is now hardware. leaves_ordinary c.args.frame.now c.args.own.now c.args.self.now is now hardware
