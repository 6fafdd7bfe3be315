-- A recovery that the peer's blocks guide (RFC 6675 5): what goes again in it, and how much may be on its way.
use Rattle.std.specs.Prelude.{◌≡◌, ℕ, ◌+◌, ◌<◌, ◌≤◌, Bool, true, false, length, Some}
use Rattle.tcp_machine.specs.declared.timers.Pending.TheVariants.{Resend}
use Rattle.tcp_machine.specs.Pieces.{Piece, after_octets}
use Rattle.tcp_machine.specs.Scoreboard.{is_empty, told_between}
use Rattle.tcp_machine.specs.Connection.{Connection}
use Rattle.tcp_machine.specs.Outgoing.{SendNext, SendAgain, action, after_action}

-- a segment is owed once more
abbrev pub owing : Connection → Connection
owing c = record c { pending = Resend }

-- Of two segments that are sent again in a recovery, one after the other, the second begins behind the first
abbrev pub NothingGoesTwice : Type 0
NothingGoesTwice =
    (now t : ℕ) (c : Connection) (p q : Piece) → c.reception.sack_permitted ≡ true → c.congestion.is_recovering ≡ true →
    action now c ≡ Some (SendAgain p) → action t (owing (after_action now (SendAgain p) c)) ≡ Some (SendAgain q) → after_octets p ≤ q.start

-- Where blocks are told, octets that are sent next end within the congestion window beyond what is acknowledged, but for as many as
-- blocks tell of those before
abbrev pub NothingBeyondWhatIsTold : Type 0
NothingBeyondWhatIsTold =
    (now : ℕ) (c : Connection) (p : Piece) → c.settings.congestion_control ≡ true → is_empty c.transmission.told ≡ false →
    action now c ≡ Some (SendNext p) → 0 < length p.octets →
    after_octets p
    ≤ c.transmission.sender.una
    + (c.congestion.window + told_between c.transmission.sender.una c.transmission.nxt c.transmission.told)
