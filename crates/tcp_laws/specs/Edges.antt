-- Windows (RFC 9293 3.8.6, RFC 7323 2): what a connection promised has room for ever, and isn't taken back; and what it sends
-- lies in the window that its peer told.
use Rattle.std.specs.Prelude.{◌≡◌, ℕ, ◌+◌, ◌-◌, ◌*◌, ◌<◌, ◌≤◌, ◌^◌, max, List, [], ◌∷◌, length, slice_get, Some, ◌⊎◌}
use Rattle.tcp_machine.specs.declared.settings.Settings.{Settings}
use Rattle.tcp_machine.specs.Pieces.{Piece, after_octets}
use Rattle.tcp_machine.specs.Receiving.{edge, expected}
use Rattle.tcp_machine.specs.Connection.{Connection}
use Rattle.tcp_machine.specs.Outgoing.{SendNext, SendAgain, SendProbe, action}
use Rattle.tcp_laws.specs.Machines.{Sent, IsPlain, Side, unopened, Act, Opens, Accepts}
use Rattle.tcp_laws.specs.Waiting.{after_acts}

-- the first position beyond the window that a segment tells: what it acknowledges, and its window field, scaled
abbrev pub told_edge : (scale : ℕ) → Sent → ℕ
told_edge scale k = k.acknowledged + k.segment.window * 2 ^ scale

-- What holds of the windows that a side told, by segments that are neither SYNs nor resets
pub record WindowsStay (x : Side) : Type 0 where
  -- each position in one has arrived in order, or has room in the ring
  pub room : (i q : ℕ) (k : Sent) → slice_get x.sent i ≡ Some k → IsPlain k.segment → q < told_edge x.connection.reception.scale k →
      (q < expected x.connection.reception.receiver) ⊎ (q < edge x.connection.reception.receiver)
  -- and a later segment doesn't take it back, but for what its scaled window field can't tell (RFC 7323 2.4)
  pub kept : (i j : ℕ) (k l : Sent) → i ≤ j → slice_get x.sent i ≡ Some k → slice_get x.sent j ≡ Some l →
      IsPlain k.segment → IsPlain l.segment →
      told_edge x.connection.reception.scale k ≤ told_edge x.connection.reception.scale l + (2 ^ x.connection.reception.scale - 1)

-- a connection begins
abbrev pub Begins : Act → Type 0
Begins (Opens now mss settings) = Unit {0}
Begins (Accepts now default link settings k options) = Unit {0}
Begins act = ⊥

-- none of these begins one
abbrev pub NoneBegins : List Act → Type 0
NoneBegins [] = Unit {0}
NoneBegins (act ∷ acts) = (Begins act → ⊥) × NoneBegins acts

-- whatever a connection's program does after it was begun, and whatever arrives
abbrev pub WindowsStayTold : Type 0
WindowsStayTold =
    (iss room size : ℕ) (settings : Settings) (first : Act) (acts : List Act) → Begins first → NoneBegins acts →
    WindowsStay (after_acts iss (first ∷ acts) (unopened room size settings))

-- Octets are sent for the first time only in the window that was told last; in one that is closed, one octet probes it (RFC 9293
-- 3.8.6.1). Those that are sent again were sent before, or lie in that window
pub record StaysWithin (now : ℕ) (c : Connection) : Type 0 where
  pub next : (p : Piece) → action now c ≡ Some (SendNext p) → 0 < length p.octets → after_octets p ≤ c.transmission.told_edge
  pub again : (p : Piece) → action now c ≡ Some (SendAgain p) → 0 < length p.octets →
      after_octets p ≤ max c.transmission.sender.top c.transmission.told_edge
  pub probe : (p : Piece) → action now c ≡ Some (SendProbe p) → length p.octets ≤ 1

abbrev pub NothingBeyondTheWindow : Type 0
NothingBeyondTheWindow = (now : ℕ) (c : Connection) → StaysWithin now c
