-- What becomes of a packet that is dispatched.
use Rattle.std.specs.Prelude.{◌≡◌, ℕ, List, [], Result}
use Rattle.host_machine.specs.declared.results.DispatchError.{DispatchError}
use Rattle.host_machine.specs.Context.Note.{Note}
use Rattle.host_machine.specs.Context.Host.{Host}

-- a packet was sent or dropped, or why not
abbrev pub Outcome : Type 0
Outcome = Result (Unit {0}) DispatchError

-- nothing is sent, and nothing changes
pub record IsUnsent (H : Host) (frames : List (List ℕ)) (notes : List Note) (new : Host) : Type 0 where
  pub silent : frames ≡ []
  pub unnoted : notes ≡ []
  pub unchanged : new ≡ H
