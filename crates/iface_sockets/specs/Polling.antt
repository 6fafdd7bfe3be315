-- When the first sockets of a host are due.
use Rattle.std.specs.Prelude.{ℕ, ◌<◌, ℤ}
use Rattle.host_machine.specs.Context.Host.{Host}
use Rattle.host_machine.specs.Sockets.Polling.{SocketDue}

-- some socket at an index before n is due at an instant
abbrev pub DueBefore : Host → ℕ → ℤ → Type 0
DueBefore H n x = (i : ℕ) × (i < n) × SocketDue H i x
