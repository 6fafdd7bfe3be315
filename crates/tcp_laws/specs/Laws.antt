-- What one side reads is what the other side wrote.
use Rattle.std.specs.Prelude.{◌≡◌, ℕ, ◌≤◌, List, [], ◌∷◌, ◌++◌}
use Rattle.std.specs.List.{Contains}
use Rattle.tcp_machine.specs.Pieces.{IsBeginning}
use Rattle.tcp_machine.specs.Receiving.{expected}
use Rattle.tcp_laws.specs.Run.{Event, Write, Read, TellEnd, opened, AreRun, after_all}

-- the octets that A's program wrote, and those that B's program read
abbrev pub written : List Event → List ℕ
written [] = []
written (Write octets ∷ es) = octets ++ written es
written (e ∷ es) = written es

abbrev pub read : List Event → List ℕ
read [] = []
read (Read octets ∷ es) = octets ++ read es
read (e ∷ es) = read es

-- B's ring has room for at most 2^30 octets, as a window of RFC 7323 can tell
pub record IsStream (initial room size window : ℕ) (es : List Event) : Type 0 where
  pub small : size ≤ 1073741824
  pub told : window ≤ size
  pub run : AreRun initial (opened room size window) es

pub record Law (initial room size window : ℕ) (es : List Event) : Type 0 where
  -- what was read is a beginning of what was written
  pub prefix : IsBeginning (read es) (written es)
  -- and all of it, once B's program was told the end
  pub finished : Contains es TellEnd → read es ≡ written es
  -- what A holds to be acknowledged has arrived at B, in order
  pub acknowledged :
      (after_all initial (opened room size window) es).sender.una
      ≤ expected (after_all initial (opened room size window) es).receiver

abbrev pub StreamsKeep : Type 0
StreamsKeep = (initial room size window : ℕ) (es : List Event) →
    IsStream initial room size window es → Law initial room size window es
