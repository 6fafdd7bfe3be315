-- Lists of acts of two sides, with one act more.
use Rattle.std.proofs.Common.{◌≡◌, ◌∙◌, ℕ, true, List, [], ◌∷◌, ◌++◌, Option, Some, None, refl, ap}
use Rattle.tcp_machine.specs.Outgoing.{Action, action}
use Rattle.tcp_host.specs.Host.{no_settings}
use Rattle.tcp_laws.specs.Machines.{Side, unopened, Act, Opens, Accepts, Writes, Reads, Closes, Aborts, Chooses, Fits, Fails, Gets, Expires, Sends}
use Rattle.tcp_laws.specs.Machines.{after_sending, after_act, Move, OfA, OfB, Pair, after_move, after_moves}
use Rattle.tcp_host_laws.specs.Lives.{Life, after_acts, side_of, with_act}
use Rattle.tcp_host_laws.specs.Pairs.{MayMoveAt, AreMovesAt, acts_of_a, acts_of_b}
use Rattle.tcp_host_laws.proofs.LifeLemmas.{one_more}

pub moves_append : (i j : ℕ) (p : Pair) (ms : List Move) (m : Move) → AreMovesAt i j p ms → MayMoveAt m (after_moves i j p ms) →
    AreMovesAt i j p (ms ++ m ∷ [])
moves_append i j p [] m are may = (may, tt)
moves_append i j p (n ∷ ms) m are may = (are.0, moves_append i j (after_move i j n p) ms m are.1 may)

-- an act of the one
pub a_more : (ms : List Move) (act : Act) → acts_of_a (ms ++ OfA act ∷ []) ≡ acts_of_a ms ++ act ∷ []
a_more [] act = refl
a_more (OfA other ∷ ms) act = ap (λ (acts : List Act). other ∷ acts) (a_more ms act)
a_more (OfB other ∷ ms) act = a_more ms act

pub b_same : (ms : List Move) (act : Act) → acts_of_b (ms ++ OfA act ∷ []) ≡ acts_of_b ms
b_same [] act = refl
b_same (OfA other ∷ ms) act = b_same ms act
b_same (OfB other ∷ ms) act = ap (λ (acts : List Act). other ∷ acts) (b_same ms act)

-- or of the other one
pub b_more : (ms : List Move) (act : Act) → acts_of_b (ms ++ OfB act ∷ []) ≡ acts_of_b ms ++ act ∷ []
b_more [] act = refl
b_more (OfA other ∷ ms) act = b_more ms act
b_more (OfB other ∷ ms) act = ap (λ (acts : List Act). other ∷ acts) (b_more ms act)

pub a_same : (ms : List Move) (act : Act) → acts_of_a (ms ++ OfB act ∷ []) ≡ acts_of_a ms
a_same [] act = refl
a_same (OfA other ∷ ms) act = ap (λ (acts : List Act). other ∷ acts) (a_same ms act)
a_same (OfB other ∷ ms) act = a_same ms act

-- each side does its own acts
pub side_a : (i j : ℕ) (p : Pair) (ms : List Move) → (after_moves i j p ms).a ≡ after_acts i (acts_of_a ms) p.a
side_a i j p [] = refl
side_a i j p (OfA act ∷ ms) = side_a i j (after_move i j (OfA act) p) ms
side_a i j p (OfB act ∷ ms) = side_a i j (after_move i j (OfB act) p) ms

pub side_b : (i j : ℕ) (p : Pair) (ms : List Move) → (after_moves i j p ms).b ≡ after_acts j (acts_of_b ms) p.b
side_b i j p [] = refl
side_b i j p (OfA act ∷ ms) = side_b i j (after_move i j (OfA act) p) ms
side_b i j p (OfB act ∷ ms) = side_b i j (after_move i j (OfB act) p) ms

-- a side that has begun has begun
sends_begun : (now : ℕ) (o : Option Action) (x : Side) → x.is_begun ≡ true → (after_sending now o x).is_begun ≡ true
sends_begun now None x is = is
sends_begun now (Some m) x is = is

pub act_begun : (number : ℕ) (act : Act) (x : Side) → x.is_begun ≡ true → (after_act number act x).is_begun ≡ true
act_begun number (Opens now mss settings) x is = refl
act_begun number (Accepts now default link settings k options) x is = refl
act_begun number (Writes octets) x is = is
act_begun number (Reads count) x is = is
act_begun number Closes x is = is
act_begun number Aborts x is = is
act_begun number (Chooses settings) x is = is
act_begun number (Fits size) x is = is
act_begun number Fails x is = is
act_begun number (Gets default link now keeps k options) x is = is
act_begun number (Expires now) x is = is
act_begun number (Sends now) x is = sends_begun now (action now x.connection) x is

-- so has a life, whatever it does
pub life_begun : (l : Life) (act : Act) → (side_of l).is_begun ≡ true → (side_of (with_act act l)).is_begun ≡ true
life_begun l act is =
    ap (λ (x : Side). x.is_begun) (one_more l.number l.acts act (unopened l.room l.size no_settings))
    ∙ act_begun l.number act (side_of l) is
