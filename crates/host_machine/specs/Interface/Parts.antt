-- Parts of a call, one after another.
use Rattle.std.specs.Prelude.{◌≡◌, List, ◌++◌}
use Rattle.net_base.specs.Device.{Event}
use Rattle.host_machine.specs.Context.Note.{Note}
use Rattle.host_machine.specs.Context.Host.{Host}

-- what a part of a call does: from a host, with the device's events and notes, to a host
abbrev pub Part : Type 1
Part = Host → List Event → List Note → Host → Type 0

-- first one part, then the other
pub record Both (one two : Part) (old : Host) (told : List Event) (notes : List Note) (new : Host) : Type 0 where
  pub mid : Host
  pub told_one : List Event
  pub told_two : List Event
  pub notes_one : List Note
  pub notes_two : List Note
  pub begins : one old told_one notes_one mid
  pub ends : two mid told_two notes_two new
  pub events : told ≡ told_one ++ told_two
  pub all_notes : notes ≡ notes_one ++ notes_two
