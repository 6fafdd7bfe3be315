-- A call of an interface as one step of the host machine.
use Rattle.std.specs.Prelude.{List}
use Rattle.net_base.specs.Device.{Event}
use Rattle.host_machine.specs.Context.Host.{Host}
use Rattle.host_machine.specs.Context.Note.{Note}

-- what a call did: these are the device's events and the notes, and this is the host afterwards
pub record RefinementTelling {D : Type 0} (tells : D → List Event → D → Type 0) (device device' : D)
    (step : List Event → List Note → Host → Type 0)
    (after : Host → Type 0) : Type 0 where
  pub told : List Event
  pub notes : List Note
  pub host : Host
  pub tells_it : tells device told device'
  pub steps : step told notes host
  pub stands : after host

-- from each host before, one step leads to a host afterwards
abbrev pub HostRefinesTelling : {D : Type 0} →
    (D → List Event → D → Type 0) → D → D → (Host → List Event → List Note → Host → Type 0) →
    (Host → Type 0) → (Host → Type 0) → Type 0
HostRefinesTelling tells device device' step before after = (H : Host) →
    before H → RefinementTelling tells device device' (step H) after
