-- Two lives, one at each end of a connection: what came to the one was sent by the other.
use Rattle.std.specs.Prelude.{◌≡◌, ℕ, ◌+◌, ◌≤◌, ◌^◌, true, false, List, [], ◌∷◌}
use Rattle.std.specs.List.{Contains}
use Rattle.tcp_machine.specs.Connection.{Connection}
use Rattle.tcp_machine.specs.Receiving.{next}
use Rattle.tcp_machine.specs.Segments as machine
use Rattle.tcp_machine.specs.Segments.{Options}
use Rattle.tcp_host.specs.Host.{no_settings}
use Rattle.tcp_laws.specs.Machines.{Sent, Side, unopened, IsPlain, arrived, Act, Opens, Accepts}
use Rattle.tcp_laws.specs.Machines.{Gets, Move, OfA, OfB, Pair, after_move, StreamHolds}
use Rattle.tcp_host_laws.specs.Lives.{Life, side_of}

-- a segment is one that the peer sent, but for its options
pub record StandsFor (sent : List Sent) (s : machine.Segment) : Type 0 where
  pub one : Sent
  pub options : Options
  pub was_sent : Contains sent one
  pub is : arrived one.segment options ≡ s

-- what comes had been sent by the peer; a reset may be anyone's
pub data MayCome (sent : List Sent) (s : machine.Segment) : Type 0 where
  OfPeer : StandsFor sent s → MayCome sent s
  OfAnyone : s.rst ≡ true → MayCome sent s

-- when a side may do it: it begins once
abbrev pub MayDoAt : Act → (mine peers : Side) → Type 0
MayDoAt (Opens now mss settings) mine peers = mine.is_begun ≡ false
MayDoAt (Accepts now default link settings k options) mine peers =
    (mine.is_begun ≡ false) × StandsFor peers.sent (arrived k.segment options) × (k.segment.syn ≡ true)
MayDoAt (Gets default link now keeps k options) mine peers =
    (mine.is_begun ≡ true) × MayCome peers.sent (arrived k.segment options)
MayDoAt act mine peers = mine.is_begun ≡ true

-- a segment that a connection gets is neither older than 2^31 positions, nor is what it acknowledges
pub record IsFresh (c : Connection) (k : Sent) : Type 0 where
  pub fresh : IsPlain k.segment → next c.reception.receiver ≤ k.start + 2 ^ 31
  pub fresh_acknowledgement : IsPlain k.segment → c.transmission.sender.una ≤ k.acknowledged + 2 ^ 31

-- What comes is recent: if the peer sent segments that are the same on the wire, one of them is fresh. So it is where
-- no packet lives as long as its sender takes for 2^31 octets more.
abbrev pub IsRecent : Act → (mine peers : Side) → Type 0
IsRecent (Gets default link now keeps k options) mine peers =
    StandsFor peers.sent (arrived k.segment options) →
    (stands : StandsFor peers.sent (arrived k.segment options)) × IsFresh mine.connection stands.one
IsRecent act mine peers = Unit {0}

abbrev pub MayMoveAt : Move → Pair → Type 0
MayMoveAt (OfA act) p = MayDoAt act p.a p.b
MayMoveAt (OfB act) p = MayDoAt act p.b p.a

abbrev pub AreMovesAt : (i j : ℕ) → Pair → List Move → Type 0
AreMovesAt i j p [] = Unit {0}
AreMovesAt i j p (m ∷ ms) = MayMoveAt m p × AreMovesAt i j (after_move i j m p) ms

abbrev pub AreRecent : (i j : ℕ) → Pair → List Move → Type 0
AreRecent i j p [] = Unit {0}
AreRecent i j p (OfA act ∷ ms) = IsRecent act p.a p.b × AreRecent i j (after_move i j (OfA act) p) ms
AreRecent i j p (OfB act ∷ ms) = IsRecent act p.b p.a × AreRecent i j (after_move i j (OfB act) p) ms

-- the acts of each
abbrev pub acts_of_a : List Move → List Act
acts_of_a [] = []
acts_of_a (OfA act ∷ ms) = act ∷ acts_of_a ms
acts_of_a (OfB act ∷ ms) = acts_of_a ms

abbrev pub acts_of_b : List Move → List Act
acts_of_b [] = []
acts_of_b (OfA act ∷ ms) = acts_of_b ms
acts_of_b (OfB act ∷ ms) = act ∷ acts_of_b ms

-- two sides at which nothing has begun
abbrev pub start_of : Life → Life → Pair
start_of x y = record { a = unopened x.room x.size no_settings; b = unopened y.room y.size no_settings }

-- the acts of two lives in one order, in which what comes to one had been sent by the other
pub record IsOrder (x y : Life) (ms : List Move) : Type 0 where
  pub of_x : acts_of_a ms ≡ x.acts
  pub of_y : acts_of_b ms ≡ y.acts
  pub moves : AreMovesAt x.number y.number (start_of x y) ms

-- If it is recent, what a program read from the one is a beginning of what the other's program wrote, and all of it,
-- once it is told the end.
abbrev pub LivesKeep : Type 0
LivesKeep =
    (x y : Life) (ms : List Move) → x.room ≤ 2 ^ 30 → y.room ≤ 2 ^ 30 → IsOrder x y ms →
    AreRecent x.number y.number (start_of x y) ms →
    StreamHolds (side_of x) (side_of y) × StreamHolds (side_of y) (side_of x)
