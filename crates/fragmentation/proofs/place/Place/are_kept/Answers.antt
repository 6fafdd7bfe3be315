use Rattle.fragmentation.proofs.place.Place.are_kept.Goals as goal

pub returns-in-Own-clause-apart : goal.returns-in-Own-clause-apart
returns-in-Own-clause-apart g c = rw c.in-Own.is c.are_kept.ensures.apart

pub returns-in-Lent-clause-apart : goal.returns-in-Lent-clause-apart
returns-in-Lent-clause-apart g c = rw c.in-Lent.is c.are_kept-in-Lent.ensures.apart
