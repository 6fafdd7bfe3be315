-- The exit status of a script.
use Rattle.std.specs.Prelude.{ℕ, if◌then◌else◌, ◌&&◌, Result, Ok, Err, is_ok}
use Rattle.script.specs.declared.run.Stop.{Stop}
use Rattle.script.specs.declared.run.Stop.TheVariants.{BadLine, NoMemory, NoHost, Failed}

-- by how the lines ended
abbrev pub status_of : Result (Unit {0}) Stop → ℕ
status_of (Ok done) = 0
status_of (Err (BadLine number)) = 2
status_of (Err NoMemory) = 3
status_of (Err (NoHost e)) = 4
status_of (Err Failed) = 4

-- and 4 if the output wasn't flushed or the reason wasn't written
abbrev pub exit_status : {E : Type 0} → Result (Unit {0}) Stop → Result (Unit {0}) E → Result (Unit {0}) E → ℕ
exit_status ended flushed told = if is_ok flushed && is_ok told then status_of ended else 4
