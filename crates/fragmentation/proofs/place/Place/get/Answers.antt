use Rattle.std.proofs.Common.{refl}
use Rattle.fragmentation.proofs.place.Place.get.Goals as goal

pub returns-in-Own : goal.returns-in-Own
returns-in-Own g c =
    let e = rw c.in-Own.is at c.get.ensures in
    rw c.in-Own.is (refl, record { lends = tt; value = e.value; refused = e.refused; within = e.within })

pub returns-in-Lent : goal.returns-in-Lent
returns-in-Lent g c =
    let e = rw c.in-Lent.is at c.get-in-Lent.ensures in
    rw c.in-Lent.is (refl, record { lends = tt; value = e.value; refused = e.refused; within = e.within })
