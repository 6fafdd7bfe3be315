-- Events that a tracer kept one after another.
use Rattle.std.specs.Prelude.{Bool, List, [], ◌++◌}
use Rattle.net_base.specs.Device.{Event}
use Rattle.net_base.specs.Details.DriverLaws.{none_appended, appended_on}
use Rattle.net_base.specs.Details.TracedEvents.{Traces}

-- without an event a list is as complete as it was
pub none_traced : (complete : Bool) (events : List Event) → Traces complete events [] complete events
none_traced complete events so = (so, none_appended events)

-- what was kept in two parts was kept as one
pub traced_on : (a b c : Bool) (start mid end xs ys : List Event) →
    Traces a start xs b mid → Traces b mid ys c end → Traces a start (xs ++ ys) c end
traced_on a b c start mid end xs ys first second so =
    let later = second so in
    let earlier = first later.0 in
    (earlier.0, appended_on start mid end xs ys earlier.1 later.1)
