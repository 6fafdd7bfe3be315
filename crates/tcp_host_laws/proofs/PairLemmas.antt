-- Two lives keep their streams.
use Rattle.std.proofs.Common.{◌≡◌, ◌∙◌, ℕ, Bool, true, List, [], ◌∷◌, length, refl, sym, ap, subst}
use Rattle.std.proofs.lemmas.Bool.{false≢true}
use Rattle.tcp_machine.specs.declared.settings.Settings.{Settings}
use Rattle.tcp_machine.specs.Segments as machine
use Rattle.tcp_machine.specs.Opening.{accepted, after_arrival}
use Rattle.tcp_host.specs.Host.{no_settings}
use Rattle.tcp_laws.specs.Machines.{Sent, Side, unopened, arrived, Act, Opens, Accepts, Writes, Reads, Closes}
use Rattle.tcp_laws.specs.Machines.{Aborts, Chooses, Fits, Fails, Gets, Expires, Sends, MayAct, with_connection, after_act, Move, OfA, OfB, MayMove}
use Rattle.tcp_laws.specs.Machines.{Pair, after_move, AreMoves, after_moves, StreamHolds}
use Rattle.tcp_laws.proofs.MachineRuns.{machines_keep}
use Rattle.tcp_host_laws.specs.Lives.{after_acts, side_of}
use Rattle.tcp_host_laws.specs.Pairs.{MayCome, OfPeer, OfAnyone, MayDoAt, IsRecent, AreMovesAt, AreRecent, acts_of_a, acts_of_b, LivesKeep}

-- an act for another one
pub record Replaces (number : ℕ) (given : Act) (mine peers : Side) : Type 0 where
  pub act : Act
  pub same : after_act number act mine ≡ after_act number given mine
  pub may : MayAct act mine peers

itself : (number : ℕ) (given : Act) (mine peers : Side) → MayAct given mine peers → Replaces number given mine peers
itself number given mine peers may = record { act = given; same = refl; may = may }

gets : (number default link now : ℕ) (keeps : Bool) (k : Sent) (options : machine.Options) (mine peers : Side) → mine.is_begun ≡ true →
    MayCome peers.sent (arrived k.segment options) → IsRecent (Gets default link now keeps k options) mine peers →
    Replaces number (Gets default link now keeps k options) mine peers
gets number default link now keeps k options mine peers begun (OfPeer first) recent =
    let known = recent first in
    let stands = known.0 in
    let fresh = known.1 in record {
      act = Gets default link now keeps stands.one stands.options;
      same = ap (λ (s : machine.Segment). with_connection (after_arrival default link now keeps s mine.connection) mine) stands.is;
      may = (
        begun,
        record {
          was_sent = λ no_reset. stands.was_sent;
          fresh = fresh.fresh;
          fresh_acknowledgement = fresh.fresh_acknowledgement;
        },
      );
    }
gets number default link now keeps k options mine peers begun (OfAnyone reset) recent =
    itself number (Gets default link now keeps k options) mine peers (
      begun,
      record {
        was_sent = λ no_reset. absurd (false≢true (sym no_reset ∙ reset));
        fresh = λ plain. absurd (false≢true (sym plain.no_reset ∙ reset));
        fresh_acknowledgement = λ plain. absurd (false≢true (sym plain.no_reset ∙ reset));
      },
    )

-- a side that a SYN begins
abbrev began : (number now default link : ℕ) → Settings → machine.Segment → Side → Side
began number now default link settings s x = record x {
  connection =
      accepted now number x.connection.transmission.sender.room (length x.connection.reception.receiver.cells) default link settings s;
  is_begun = true;
}

replaces : (number : ℕ) (given : Act) (mine peers : Side) → MayDoAt given mine peers → IsRecent given mine peers → Replaces number given mine peers
replaces number (Opens now mss settings) mine peers may recent = itself number (Opens now mss settings) mine peers may
replaces number (Accepts now default link settings k options) mine peers may recent =
    let stands = may.1 in record {
      act = Accepts now default link settings stands.one stands.options;
      same = ap (λ (s : machine.Segment). began number now default link settings s mine) stands.is;
      may = (may.0, stands.was_sent, ap (λ (s : machine.Segment). s.syn) stands.is ∙ may.2);
    }
replaces number (Writes octets) mine peers may recent = itself number (Writes octets) mine peers may
replaces number (Reads count) mine peers may recent = itself number (Reads count) mine peers may
replaces number Closes mine peers may recent = itself number Closes mine peers may
replaces number Aborts mine peers may recent = itself number Aborts mine peers may
replaces number (Chooses settings) mine peers may recent = itself number (Chooses settings) mine peers may
replaces number (Fits size) mine peers may recent = itself number (Fits size) mine peers may
replaces number Fails mine peers may recent = itself number Fails mine peers may
replaces number (Gets default link now keeps k options) mine peers may recent =
    gets number default link now keeps k options mine peers may.0 may.1 recent
replaces number (Expires now) mine peers may recent = itself number (Expires now) mine peers may
replaces number (Sends now) mine peers may recent = itself number (Sends now) mine peers may

-- so it is with a list of them
pub record Runs (i j : ℕ) (p : Pair) (given : List Move) : Type 0 where
  pub moves : List Move
  pub same : after_moves i j p moves ≡ after_moves i j p given
  pub are : AreMoves i j p moves

more : (i j : ℕ) (p : Pair) (m given : Move) (ms : List Move) → MayMove m p → after_move i j m p ≡ after_move i j given p →
    Runs i j (after_move i j given p) ms → Runs i j p (given ∷ ms)
more i j p m given ms may same r = record {
  moves = m ∷ r.moves;
  same = ap (λ (q : Pair). after_moves i j q r.moves) same ∙ r.same;
  are = (may, subst (λ (q : Pair). AreMoves i j q r.moves) (sym same) r.are);
}

runs : (i j : ℕ) (p : Pair) (ms : List Move) → AreMovesAt i j p ms → AreRecent i j p ms → Runs i j p ms
runs i j p [] are recent = record { moves = []; same = refl; are = tt }
runs i j p (OfA given ∷ ms) are recent =
    let r = replaces i given p.a p.b are.0 recent.0 in
    more i j p (OfA r.act) (OfA given) ms r.may (ap (λ (x : Side). record p { a = x }) r.same) (runs i j (after_move i j (OfA given) p) ms are.1 recent.1)
runs i j p (OfB given ∷ ms) are recent =
    let r = replaces j given p.b p.a are.0 recent.0 in
    more i j p (OfB r.act) (OfB given) ms r.may (ap (λ (x : Side). record p { b = x }) r.same) (runs i j (after_move i j (OfB given) p) ms are.1 recent.1)

-- each side does its own acts
side_a : (i j : ℕ) (p : Pair) (ms : List Move) → (after_moves i j p ms).a ≡ after_acts i (acts_of_a ms) p.a
side_a i j p [] = refl
side_a i j p (OfA act ∷ ms) = side_a i j (after_move i j (OfA act) p) ms
side_a i j p (OfB act ∷ ms) = side_a i j (after_move i j (OfB act) p) ms

side_b : (i j : ℕ) (p : Pair) (ms : List Move) → (after_moves i j p ms).b ≡ after_acts j (acts_of_b ms) p.b
side_b i j p [] = refl
side_b i j p (OfA act ∷ ms) = side_b i j (after_move i j (OfA act) p) ms
side_b i j p (OfB act ∷ ms) = side_b i j (after_move i j (OfB act) p) ms

pub lives_keep : LivesKeep
lives_keep x y ms small_x small_y o recent =
    let i = x.number in
    let j = y.number in
    let a : Side = unopened x.room x.size no_settings in
    let b : Side = unopened y.room y.size no_settings in
    let p : Pair = record { a = a; b = b } in
    let r = runs i j p ms o.moves recent in
    let k = machines_keep i j x.room x.size y.room y.size no_settings no_settings r.moves small_x small_y r.are in
    let is_a : (after_moves i j p r.moves).a ≡ side_of x =
    ap (λ (q : Pair). q.a) r.same ∙ side_a i j p ms ∙ ap (λ (acts : List Act). after_acts i acts a) o.of_x in
    let is_b : (after_moves i j p r.moves).b ≡ side_of y =
    ap (λ (q : Pair). q.b) r.same ∙ side_b i j p ms ∙ ap (λ (acts : List Act). after_acts j acts b) o.of_y in (
      subst (λ (s : Side). StreamHolds s (side_of y)) is_a (subst (λ (s : Side). StreamHolds (after_moves i j p r.moves).a s) is_b k.0),
      subst (λ (s : Side). StreamHolds (side_of y) s) is_a (subst (λ (s : Side). StreamHolds s (after_moves i j p r.moves).a) is_b k.1),
    )
