-- A connection that waits for its peer is never stuck: something is due, or a timer runs (RFC 9293 3.8.1, 3.8.6.1, 3.8.6.2.1).
use Rattle.std.specs.Prelude.{◌≡◌, ℕ, ◌+◌, ◌<◌, true, List, [], ◌∷◌, length, is_some, ◌⊎◌, if◌then◌else◌}
use Rattle.tcp_machine.specs.declared.settings.Settings.{Settings}
use Rattle.tcp_machine.specs.States.{is_opening, sends_octets}
use Rattle.tcp_machine.specs.Connection.{Connection}
use Rattle.tcp_machine.specs.Sending.{Sender}
use Rattle.tcp_machine.specs.Due.{due_at}
use Rattle.tcp_laws.specs.Machines.{Side, unopened, Act, after_act}

-- whatever a side does, and whatever arrives at it
abbrev pub after_acts : (iss : ℕ) → List Act → Side → Side
after_acts iss [] x = x
after_acts iss (act ∷ acts) x = after_acts iss acts (after_act iss act x)

-- the position after all that the program wrote, and after the end once it closed
abbrev pub after_all : Sender → ℕ
after_all s = s.una + length s.ring + (if is_some s.stop then 1 else 0)

-- The own SYN isn't acknowledged; or something that was written, or the end, isn't, whether it was sent or not
abbrev pub IsUnanswered : Connection → Type 0
IsUnanswered c =
    (is_opening c.state ≡ true)
    ⊎ ((sends_octets c.state ≡ true) × (c.transmission.sender.una < after_all c.transmission.sender))

-- then it is due, at any instant: at once or later
abbrev pub NeverStuck : Type 0
NeverStuck =
    (iss room size : ℕ) (settings : Settings) (acts : List Act) (now : ℕ) →
    let c = (after_acts iss acts (unopened room size settings)).connection in IsUnanswered c → is_some (due_at now c) ≡ true
