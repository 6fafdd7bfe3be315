-- Devices that tell exactly what passed.
use Rattle.std.specs.Prelude.{◌≡◌, List}
use Rattle.net_base.specs.Device.{Event}

-- between two states of the device there is one list of events at most: who has the states has the events
abbrev pub DeterminesEvents : {D : Type 0} → (D → List Event → D → Type 0) → Type 0
DeterminesEvents {D} tells = (old new : D) (one other : List Event) →
    tells old one new → tells old other new → one ≡ other
