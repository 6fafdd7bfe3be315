-- Over runs.
use Rattle.std.proofs.Common.{◌≡◌, ◌<◌, ◌≤◌, ◌+◌, ◌-◌, ℕ, zero, suc, Bool, true, false, List, [], ◌∷◌, ◌++◌, length, drop}
use Rattle.std.proofs.Common.{refl, sym, ap, ◌∙◌, subst, arith, Option, Some, None, get_or}
use Rattle.std.specs.Prelude.{if◌then◌else◌, nat_le, ◌&&◌}
use Rattle.std.specs.List.{Contains}
use Rattle.std.proofs.lemmas.Option.{none-some}
use Rattle.std.proofs.lemmas.List.{append_assoc, take-append-drop, take_all, length-replicate}
use Rattle.std.proofs.lemmas.List.Elements.{All-nil, All-contains}
use Rattle.tcp_machine.specs.Positions.{IsNear, position_near, number_at}
use Rattle.tcp_machine.specs.Pieces.{after_octets, PieceOnWire, piece_on_wire, Ack}
use Rattle.tcp_machine.specs.Sending.{after_ack_at}
use Rattle.tcp_machine.specs.Receiving.{Receiver, next, edge, open_receiver, stop_from, with_piece, piece_at, is_acceptable, after_piece_at}
use Rattle.tcp_machine.proofs.PositionsLemmas.{position_right}
use Rattle.tcp_laws.specs.Run.{Event, Write, Close, Send, Arrive, Read, TellEnd, Acknowledge, ArriveAck, Direction, opened, May, after}
use Rattle.tcp_laws.specs.Run.{AreRun, after_all}
use Rattle.tcp_laws.specs.Laws.{written, read, StreamsKeep}
use Rattle.tcp_laws.proofs.Lists.{no_hole}
use Rattle.tcp_laws.proofs.Stands.{PieceStands, AckStands, StartsWithin, Stands}
use Rattle.tcp_laws.proofs.SendingSteps.{writes, closes, sends, acks}
use Rattle.tcp_laws.proofs.ReceivingSteps.{arrives, reads, tells, expected_top, next_expected}

pub append_none : (xs : List ℕ) → xs ++ [] ≡ xs
append_none [] = refl
append_none (x ∷ xs) = ap (λ ys. x ∷ ys) (append_none xs)

-- an acknowledgement is read as the right position
ack_arrives : (initial size : ℕ) (d : Direction) (w rd : List ℕ) (a : Ack) → size ≤ 1073741824 → Contains d.acks a →
    d.sender.una ≤ a.position + 2147483648 → Stands size d w rd → Stands size (after initial (ArriveAck a) d) w rd
ack_arrives initial size d w rd a small there fresh h =
    let k = All-contains (AckStands size d.receiver) d.acks a h.acks there in
    let top = expected_top size d.sender d.receiver w rd h.receiver in
    let near : IsNear d.sender.una a.position = record {
      not_old = fresh;
      not_new = omega (arith, small, k.position, top, h.window.top_edge, h.window.edge);
    } in
    let right = position_right initial d.sender.una a.position near in
    subst (λ o. Stands size (record d { sender = after_ack_at o a.window d.sender }) w rd) (sym right) (acks size d w rd a k h)

-- what stands at first stands at last
keeps : (initial size : ℕ) → size ≤ 1073741824 → (es : List Event) (d : Direction) (w rd : List ℕ) → AreRun initial d es → Stands size d w rd →
    Stands size (after_all initial d es) (w ++ written es) (rd ++ read es)
keeps initial size small [] d w rd run h =
    subst (λ v. Stands size d v (rd ++ [])) (sym (append_none w)) (subst (λ v. Stands size d w v) (sym (append_none rd)) h)
keeps initial size small (Write xs ∷ es) d w rd run h =
    subst (λ v. Stands size (after_all initial (after initial (Write xs) d) es) v (rd ++ read es)) (append_assoc w xs (written es))
    (keeps initial size small es (after initial (Write xs) d) (w ++ xs) rd run.1 (writes size d w rd xs run.0 h))
keeps initial size small (Close ∷ es) d w rd run h =
    keeps initial size small es (after initial Close d) w rd run.1 (closes size d w rd run.0 h)
keeps initial size small (Send p ∷ es) d w rd run h =
    keeps initial size small es (after initial (Send p) d) w rd run.1 (sends size d w rd p run.0 h)
keeps initial size small (Arrive p ∷ es) d w rd run h =
    keeps initial size small es (after initial (Arrive p) d) w rd run.1
    (arrives initial size d w rd p small (All-contains (PieceStands d.sender w) d.pieces p h.pieces run.0.0)
    (All-contains (StartsWithin d.sender) d.pieces p h.window.starts run.0.0) run.0.1 h)
keeps initial size small (Read xs ∷ es) d w rd run h =
    subst (λ v. Stands size (after_all initial (after initial (Read xs) d) es) (w ++ written es) v) (append_assoc rd xs (read es))
    (keeps initial size small es (after initial (Read xs) d) w (rd ++ xs) run.1 (reads size d w rd xs run.0 h))
keeps initial size small (TellEnd ∷ es) d w rd run h = keeps initial size small es d w rd run.1 h
keeps initial size small (Acknowledge window ∷ es) d w rd run h =
    keeps initial size small es (after initial (Acknowledge window) d) w rd run.1 (tells size d w rd window run.0 h)
keeps initial size small (ArriveAck a ∷ es) d w rd run h =
    keeps initial size small es (after initial (ArriveAck a) d) w rd run.1 (ack_arrives initial size d w rd a small run.0.0 run.0.1 h)

pub no_end : {P : Type 0} (e : ℕ) → None ≡ Some e → P
no_end e h = absurd (none-some e h)

at_first : (room size window : ℕ) → window ≤ size → Stands size (opened room size window) [] []
at_first room size window told = record {
  sender = record {
    una = omega arith;
    ring = refl;
    una_top = omega arith;
    top_open = λ _. omega arith;
    top_stop = λ e h. no_end e h;
  };
  receiver = record {
    places = length-replicate size None;
    cells = λ i x g. absurd (no_hole size i x g);
    held = λ i x g. absurd (no_hole size i x g);
    base = omega arith;
    read = refl;
    within = omega arith;
    base_top = omega arith;
    stop = λ e h. no_end e h;
  };
  window = record {
    top_edge = omega arith;
    edge = omega arith;
    room = omega arith;
    starts = All-nil (StartsWithin (opened room size window).sender);
  };
  pieces = All-nil (PieceStands (opened room size window).sender []);
  acks = All-nil (AckStands size (open_receiver size));
  acknowledged = omega (arith, next_expected (open_receiver size));
}

-- the end was reached
abbrev pub HasEnded : Receiver → Type 0
HasEnded r = (q : ℕ) × (r.stop ≡ Some q) × (q ≤ r.base)

pub ended_piece : (o : Option ℕ) (s : PieceOnWire) (r : Receiver) → HasEnded r → HasEnded (after_piece_at o s r)
ended_piece None s r h = h
ended_piece (Some p) s r h = by (is_acceptable r (piece_at p s)) where
  by : (b : Bool) → HasEnded (if b then with_piece (piece_at p s) r else r)
  by true = (h.0, ap (λ o. stop_from o (s.fin && nat_le (after_octets (piece_at p s)) (edge r)) (after_octets (piece_at p s))) h.1, h.2)
  by false = h

ended_still : (initial : ℕ) (e : Event) (d : Direction) → HasEnded d.receiver → HasEnded (after initial e d).receiver
ended_still initial (Write xs) d h = h
ended_still initial Close d h = h
ended_still initial (Send p) d h = h
ended_still initial (Arrive p) d h =
    ended_piece (position_near initial (next d.receiver) (number_at initial p.start)) (piece_on_wire initial p) d.receiver h
ended_still initial (Read xs) d h = (h.0, h.1, let k = h.2 in omega (arith, k))
ended_still initial TellEnd d h = h
ended_still initial (Acknowledge window) d h = h
ended_still initial (ArriveAck a) d h = h

ended_at_last : (initial : ℕ) (es : List Event) (d : Direction) → HasEnded d.receiver → HasEnded (after_all initial d es).receiver
ended_at_last initial [] d h = h
ended_at_last initial (e ∷ es) d h = ended_at_last initial es (after initial e d) (ended_still initial e d h)

ended_if_told : (initial : ℕ) (es : List Event) (d : Direction) → AreRun initial d es → (k : ℕ) → k < length es → get_or es k TellEnd ≡ TellEnd →
    HasEnded (after_all initial d es).receiver
ended_if_told initial [] d run k low same = absurd (omega arith)
ended_if_told initial (e ∷ es) d run zero low same =
    let stop = subst (λ e. May e d) same run.0 in
    ended_at_last initial (e ∷ es) d (d.receiver.base, stop, omega arith)
ended_if_told initial (e ∷ es) d run (suc k) low same = ended_if_told initial es (after initial e d) run.1 k (omega arith) same

pub streams_keep : StreamsKeep
streams_keep initial room size window es s =
    let last = after_all initial (opened room size window) es in
    let h = keeps initial size s.small es (opened room size window) [] [] s.run (at_first room size window s.told) in record {
      prefix = (
        drop (last.receiver.base - 1) (written es),
        ap (λ ys. ys ++ drop (last.receiver.base - 1) (written es)) h.receiver.read ∙ take-append-drop (last.receiver.base - 1) (written es),
      );
      finished = λ told.
          let t = ended_if_told initial es (opened room size window) s.run told.0 told.1 told.2 in
          let stop = h.receiver.stop t.0 t.1 in
          let whole = (h.sender.top_stop t.0 stop.0).0 in
          let read_all = t.2 in
          h.receiver.read ∙ take_all (last.receiver.base - 1) (written es) (omega (arith, whole, read_all));
      acknowledged = h.acknowledged;
    }
