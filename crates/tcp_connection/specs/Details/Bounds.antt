-- What always holds of what a connection sends: positions end at 2^62.
use Rattle.std.specs.Prelude.{ℕ, ◌+◌, ◌≤◌, ◌<◌, ◌^◌, length, Bool, Option, Some, None, if◌then◌else◌}
use Rattle.tcp_machine.specs.Sending.{Sender}

-- the position after all that may be sent: after the end, once the program closed
abbrev pub last_for : Option ℕ → ℕ → ℕ
last_for None after = after
last_for (Some end) after = end + 1

abbrev pub last : Sender → ℕ
last s = last_for s.stop (s.una + length s.ring)

-- the end, if it is still to come, takes one position more
abbrev pub last_possible_for : Option ℕ → ℕ → ℕ
last_possible_for None after = after + 1
last_possible_for (Some end) after = end + 1

abbrev pub last_possible : Sender → ℕ
last_possible s = last_possible_for s.stop (s.una + length s.ring)

pub record IsWithin (s : Sender) : Type 0 where
  pub ring : length s.ring ≤ s.room
  pub room : s.room ≤ 2 ^ 30
  pub unacknowledged : s.una + length s.ring ≤ last s
  pub sent : s.top ≤ last s
  pub bounded : last_possible s ≤ 2 ^ 62 + 1
  pub edge : s.edge < 2 ^ 63

-- the position after so many octets, and the end if it follows
abbrev pub after_part : ℕ → ℕ → Bool → ℕ
after_part start len ends = start + len + (if ends then 1 else 0)
