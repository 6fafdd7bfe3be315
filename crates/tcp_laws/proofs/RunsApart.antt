-- Over two runs apart.
use Rattle.std.proofs.Common.{◌≡◌, ◌<◌, ◌-◌, ℕ, zero, suc, Bool, true, false, List, [], ◌∷◌, ◌++◌, length, drop}
use Rattle.std.proofs.Common.{refl, sym, ap, ◌∙◌, subst, arith, Option, Some, None, get_or}
use Rattle.std.specs.Prelude.{if◌then◌else◌}
use Rattle.std.specs.List.{All}
use Rattle.std.proofs.lemmas.List.{append_assoc, take-append-drop, take_all, length-replicate}
use Rattle.std.proofs.lemmas.List.Elements.{All-nil, All-contains}
use Rattle.tcp_machine.specs.Positions.{position_near}
use Rattle.tcp_machine.specs.Pieces.{Piece, PieceOnWire, piece_on_wire}
use Rattle.tcp_machine.specs.Sending.{Sender, open_sender, after_ack_at}
use Rattle.tcp_machine.specs.Receiving.{Receiver, next, open_receiver, with_piece, after_piece_at, after_segment}
use Rattle.tcp_machine.proofs.PositionsLemmas.{position_right}
use Rattle.tcp_laws.specs.Apart.{Sending, Write, Close, Send, GetAck, sender_after, IsSenderRun, written, sent}
use Rattle.tcp_laws.specs.Apart.{Receiving, Get, Read, TellEnd, StandsForOne, MayHappen, receiver_after, IsReceiverRun, read}
use Rattle.tcp_laws.specs.Apart.{RunsApartKeep}
use Rattle.tcp_laws.proofs.Lists.{no_hole}
use Rattle.tcp_laws.proofs.Stands.{SenderStands, PieceStands, ReceiverStands}
use Rattle.tcp_laws.proofs.SendingSteps.{sendable, sender_writes, sender_closes, sender_sends, pieces_written, pieces_closed, pieces_sent, any_acked}
use Rattle.tcp_laws.proofs.ReceivingSteps.{takes, left}
use Rattle.tcp_laws.proofs.Runs.{append_none, no_end, HasEnded, ended_piece}

-- the sending side
abbrev sender_at_last : ℕ → Sender → List Sending → Sender
sender_at_last initial s [] = s
sender_at_last initial s (e ∷ es) = sender_at_last initial (sender_after initial e s) es

abbrev SenderHolds : Sender → List ℕ → List Piece → Type 0
SenderHolds s w ps = SenderStands s w × All (PieceStands s w) ps

ack_holds : (o : Option ℕ) (window : ℕ) (s : Sender) (w : List ℕ) (ps : List Piece) → SenderHolds s w ps → SenderHolds (after_ack_at o window s) w ps
ack_holds None window s w ps h = h
ack_holds (Some a) window s w ps h = any_acked s w a window ps h.0 h.1

append_no_piece : (ps : List Piece) → ps ++ [] ≡ ps
append_no_piece [] = refl
append_no_piece (p ∷ ps) = ap (λ qs. p ∷ qs) (append_no_piece ps)

sender_keeps : (initial : ℕ) (es : List Sending) (s : Sender) (w : List ℕ) (ps : List Piece) → IsSenderRun initial s es → SenderHolds s w ps →
    SenderHolds (sender_at_last initial s es) (w ++ written es) (ps ++ sent es)
sender_keeps initial [] s w ps run h =
    subst (λ v. SenderHolds s v (ps ++ [])) (sym (append_none w)) (subst (λ qs. SenderHolds s w qs) (sym (append_no_piece ps)) h)
sender_keeps initial (Write xs ∷ es) s w ps run h =
    subst (λ v. SenderHolds (sender_at_last initial (sender_after initial (Write xs) s) es) v (ps ++ sent es)) (append_assoc w xs (written es))
    (sender_keeps initial es (sender_after initial (Write xs) s) (w ++ xs) ps run.1
    (sender_writes s w xs run.0 h.0, pieces_written s w xs ps h.1))
sender_keeps initial (Close ∷ es) s w ps run h =
    sender_keeps initial es (sender_after initial Close s) w ps run.1 (sender_closes s w run.0 h.0, pieces_closed s w ps run.0 h.1)
sender_keeps initial (Send p ∷ es) s w ps run h =
    subst (λ qs. SenderHolds (sender_at_last initial (sender_after initial (Send p) s) es) (w ++ written es) qs) (append_assoc ps (p ∷ []) (sent es))
    (sender_keeps initial es (sender_after initial (Send p) s) w (ps ++ p ∷ []) run.1
    (sender_sends s w p (sendable s p run.0) h.0, pieces_sent s w p ps (sendable s p run.0) h.0 h.1))
sender_keeps initial (GetAck ack ∷ es) s w ps run h =
    sender_keeps initial es (sender_after initial (GetAck ack) s) w ps run.1
    (ack_holds (position_near initial s.una ack.number) ack.window s w ps h)

sender_at_first : (room window : ℕ) → SenderHolds (open_sender room window) [] []
sender_at_first room window = (
  record {
    una = omega arith;
    ring = refl;
    una_top = omega arith;
    top_open = λ _. omega arith;
    top_stop = λ e h. no_end e h;
  },
  All-nil (PieceStands (open_sender room window) []),
)

-- the receiving side, of what was sent in all
abbrev receiver_at_last : ℕ → Receiver → List Receiving → Receiver
receiver_at_last initial r [] = r
receiver_at_last initial r (e ∷ es) = receiver_at_last initial (receiver_after initial e r) es

module _ (initial size : ℕ) (s : Sender) (w : List ℕ) (ps : List Piece) (k : All (PieceStands s w) ps) where
  either : (r r' : Receiver) (rd : List ℕ) (b : Bool) → ReceiverStands size s r' w rd → ReceiverStands size s r w rd →
      ReceiverStands size s (if b then r' else r) w rd
  either r r' rd true g h = g
  either r r' rd false g h = h

  gets : (r : Receiver) (rd : List ℕ) (segment : PieceOnWire) → StandsForOne initial ps r segment → ReceiverStands size s r w rd →
      ReceiverStands size s (after_segment initial segment r) w rd
  gets r rd segment one h =
      let p = one.0 in
      let g = takes size s r w rd p (All-contains (PieceStands s w) ps p k one.1) h in
      subst (λ x. ReceiverStands size s (after_segment initial x r) w rd) (sym one.2)
      (subst (λ o. ReceiverStands size s (after_piece_at o (piece_on_wire initial p) r) w rd)
      (sym (position_right initial (next r) p.start one.3)) (either r (with_piece p r) rd _ g h))

  receiver_keeps : (es : List Receiving) (r : Receiver) (rd : List ℕ) → IsReceiverRun initial ps r es → ReceiverStands size s r w rd →
      ReceiverStands size s (receiver_at_last initial r es) w (rd ++ read es)
  receiver_keeps [] r rd run h = subst (λ v. ReceiverStands size s r w v) (sym (append_none rd)) h
  receiver_keeps (Get segment ∷ es) r rd run h =
      receiver_keeps es (receiver_after initial (Get segment) r) rd run.1 (gets r rd segment run.0 h)
  receiver_keeps (Read xs ∷ es) r rd run h =
      subst (λ v. ReceiverStands size s (receiver_at_last initial (receiver_after initial (Read xs) r) es) w v) (append_assoc rd xs (read es))
      (receiver_keeps es (receiver_after initial (Read xs) r) (rd ++ xs) run.1 (left size s r w rd xs run.0 h))
  receiver_keeps (TellEnd ∷ es) r rd run h = receiver_keeps es r rd run.1 h

-- the end was reached
still : (initial : ℕ) (e : Receiving) (r : Receiver) → HasEnded r → HasEnded (receiver_after initial e r)
still initial (Get segment) r h = ended_piece (position_near initial (next r) segment.number) segment r h
still initial (Read xs) r h = (h.0, h.1, let k = h.2 in omega (arith, k))
still initial TellEnd r h = h

at_last : (initial : ℕ) (es : List Receiving) (r : Receiver) → HasEnded r → HasEnded (receiver_at_last initial r es)
at_last initial [] r h = h
at_last initial (e ∷ es) r h = at_last initial es (receiver_after initial e r) (still initial e r h)

if_told : (initial : ℕ) (ps : List Piece) (es : List Receiving) (r : Receiver) → IsReceiverRun initial ps r es → (k : ℕ) → k < length es →
    get_or es k TellEnd ≡ TellEnd → HasEnded (receiver_at_last initial r es)
if_told initial ps [] r run k low same = absurd (omega arith)
if_told initial ps (e ∷ es) r run zero low same =
    let stop = subst (λ e. MayHappen initial ps e r) same run.0 in
    at_last initial (e ∷ es) r (r.base, stop, omega arith)
if_told initial ps (e ∷ es) r run (suc k) low same = if_told initial ps es (receiver_after initial e r) run.1 k (omega arith) same

pub runs_apart_keep : RunsApartKeep
runs_apart_keep initial room size window sends reads a_run b_run =
    let s = sender_at_last initial (open_sender room window) sends in
    let r = receiver_at_last initial (open_receiver size) reads in
    let a = sender_keeps initial sends (open_sender room window) [] [] a_run (sender_at_first room window) in
    let first : ReceiverStands size s (open_receiver size) (written sends) [] = record {
      places = length-replicate size None;
      cells = λ i x g. absurd (no_hole size i x g);
      held = λ i x g. absurd (no_hole size i x g);
      base = omega arith;
      read = refl;
      within = omega arith;
      base_top = omega (arith, a.0.una, a.0.una_top);
      stop = λ e h. no_end e h;
    } in
    let b = receiver_keeps initial size s (written sends) (sent sends) a.1 reads (open_receiver size) [] b_run first in record {
      prefix = (
        drop (r.base - 1) (written sends),
        ap (λ ys. ys ++ drop (r.base - 1) (written sends)) b.read ∙ take-append-drop (r.base - 1) (written sends),
      );
      finished = λ told.
          let t = if_told initial (sent sends) reads (open_receiver size) b_run told.0 told.1 told.2 in
          let stop = b.stop t.0 t.1 in
          let whole = (a.0.top_stop t.0 stop.0).0 in
          let read_all = t.2 in
          b.read ∙ take_all (r.base - 1) (written sends) (omega (arith, whole, read_all));
    }
