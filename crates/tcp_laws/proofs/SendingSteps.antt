-- What the sending side does keeps what stands.
use Rattle.std.proofs.Common.{◌≡◌, ◌≤◌, ◌+◌, ◌-◌, ℕ, suc, Bool, true, false, List, [], ◌∷◌, ◌++◌, length, drop}
use Rattle.std.proofs.Common.{refl, sym, ap, ◌∙◌, arith, Some, None, slice_get}
use Rattle.std.specs.Prelude.{max, nat_le, ◌&&◌}
use Rattle.std.specs.List.{All}
use Rattle.std.proofs.lemmas.Bool.Decides.{nat_tests}
use Rattle.std.proofs.lemmas.Option.{none-some}
use Rattle.std.proofs.lemmas.List.{drop-append-le, take-append-le, drop-drop, length-append, length-drop}
use Rattle.std.proofs.lemmas.List.Elements.{All-weaker, All-push}
use Rattle.tcp_machine.specs.Pieces.{IsBeginning, octet_at, Piece, after_octets, after_piece, Ack}
use Rattle.tcp_machine.specs.Sending.{Sender, MayWrite, after_write, after_close, MaySend, after_send, after_position}
use Rattle.tcp_laws.specs.Run.{Direction}
use Rattle.tcp_laws.proofs.Lists.{get_drop, octet_append, octet_is, beginning_get}
use Rattle.tcp_laws.proofs.Stands.{SenderStands, PieceStands, AckStands, StartsWithin, Stands}

-- octets are written
pub sender_writes : (s : Sender) (w xs : List ℕ) → MayWrite s xs → SenderStands s w → SenderStands (after_write xs s) (w ++ xs)
sender_writes s w xs may h =
    let high = h.top_open may.opened in
    let at : s.una - 1 ≤ length w = omega (arith, h.una, h.una_top, high) in
    let longer = length-append w xs in record {
      una = h.una;
      ring = ap (λ ys. ys ++ xs) h.ring ∙ sym (drop-append-le (s.una - 1) w xs at);
      una_top = h.una_top;
      top_open = λ _. omega (arith, high, longer);
      top_stop = λ e stop. absurd (none-some e (sym may.opened ∙ stop));
    }

pub pieces_written : (s : Sender) (w xs : List ℕ) (ps : List Piece) → All (PieceStands s w) ps → All (PieceStands (after_write xs s) (w ++ xs)) ps
pieces_written s w xs ps h = All-weaker (PieceStands s w) (PieceStands (after_write xs s) (w ++ xs)) (λ p k. record {
  octets = λ i x g. octet_append w xs (p.start + i) x (k.octets i x g);
  last = k.last;
  sent = k.sent;
}) ps h

pub writes : (size : ℕ) (d : Direction) (w rd xs : List ℕ) → MayWrite d.sender xs → Stands size d w rd →
    Stands size (record d { sender = after_write xs d.sender }) (w ++ xs) rd
writes size d w rd xs may h = record {
  sender = sender_writes d.sender w xs may h.sender;
  receiver = record {
    places = h.receiver.places;
    cells = λ i x g. octet_append w xs (d.receiver.base + i) x (h.receiver.cells i x g);
    held = h.receiver.held;
    base = h.receiver.base;
    read =
        let at : d.receiver.base - 1 ≤ length w = omega (arith, h.receiver.base, h.receiver.within) in
        h.receiver.read ∙ sym (take-append-le (d.receiver.base - 1) w xs at);
    within = omega (arith, h.receiver.within, length-append w xs);
    base_top = h.receiver.base_top;
    stop = h.receiver.stop;
  };
  window = record { top_edge = h.window.top_edge; edge = h.window.edge; room = h.window.room; starts = h.window.starts };
  pieces = pieces_written d.sender w xs d.pieces h.pieces;
  acks = h.acks;
  acknowledged = h.acknowledged;
}

-- the end is queued
pub sender_closes : (s : Sender) (w : List ℕ) → s.stop ≡ None → SenderStands s w → SenderStands (after_close s) w
sender_closes s w opened h =
    let high = h.top_open opened in
    let n = ap length h.ring ∙ length-drop (s.una - 1) w in record {
      una = h.una;
      ring = h.ring;
      una_top = h.una_top;
      top_open = λ none. absurd (none-some _ (sym none));
      top_stop = λ e stop. (let same : s.una + length s.ring ≡ e = cc in omega (arith, h.una, h.una_top, high, n, same), omega (arith, high));
    }

pub pieces_closed : (s : Sender) (w : List ℕ) (ps : List Piece) → s.stop ≡ None → All (PieceStands s w) ps → All (PieceStands (after_close s) w) ps
pieces_closed s w ps opened h = All-weaker (PieceStands s w) (PieceStands (after_close s) w) (λ p k. record {
  octets = k.octets;
  last = λ ends. absurd (none-some _ (sym opened ∙ k.last ends));
  sent = k.sent;
}) ps h

pub closes : (size : ℕ) (d : Direction) (w rd : List ℕ) → d.sender.stop ≡ None → Stands size d w rd →
    Stands size (record d { sender = after_close d.sender }) w rd
closes size d w rd opened h = record {
  sender = sender_closes d.sender w opened h.sender;
  receiver = record {
    places = h.receiver.places;
    cells = h.receiver.cells;
    held = h.receiver.held;
    base = h.receiver.base;
    read = h.receiver.read;
    within = h.receiver.within;
    base_top = h.receiver.base_top;
    stop = λ e at. absurd (none-some e (sym opened ∙ (h.receiver.stop e at).0));
  };
  window = record { top_edge = h.window.top_edge; edge = h.window.edge; room = h.window.room; starts = h.window.starts };
  pieces = pieces_closed d.sender w d.pieces opened h.pieces;
  acks = h.acks;
  acknowledged = h.acknowledged;
}

-- a piece is sent
pub le_max_left : (a b : ℕ) → a ≤ max a b
le_max_left a b = grind arith

pub le_max_right : (a b : ℕ) → b ≤ max a b
le_max_right a b = grind arith

pub max_le : (a b c : ℕ) → a ≤ c → b ≤ c → max a b ≤ c
max_le a b c h k = grind arith

le_of_max : (x a b c : ℕ) → x ≤ max a b → a ≤ c → b ≤ c → x ≤ c
le_of_max x a b c e h k = grind arith

-- the end takes at most one position
pub piece_end : (p : Piece) → after_piece p ≤ after_octets p + 1
piece_end p = by p.ends refl where
  by : (b : Bool) → p.ends ≡ b → after_piece p ≤ after_octets p + 1
  by true e = rw e (omega arith)
  by false e = rw e (omega arith)

pub piece_open : (p : Piece) → p.ends ≡ false → after_piece p ≡ after_octets p
piece_open p e = rw e (omega arith)

-- What may be sent, whatever the window is
pub record IsSendable (s : Sender) (p : Piece) : Type 0 where
  pub unacknowledged : s.una ≤ p.start
  pub octets : IsBeginning p.octets (drop (p.start - s.una) s.ring)
  pub no_gap : after_octets p ≤ max s.top (s.una + length s.ring)
  pub last : p.ends ≡ true → s.stop ≡ Some (after_octets p)

pub sendable : (s : Sender) (p : Piece) → MaySend s p → IsSendable s p
sendable s p may = record { unacknowledged = may.unacknowledged; octets = may.octets; no_gap = may.no_gap; last = may.last }

-- where the octets of a piece are in the stream
piece_octets : (s : Sender) (w : List ℕ) (p : Piece) → IsSendable s p → SenderStands s w →
    (i x : ℕ) → slice_get p.octets i ≡ Some x → octet_at w (p.start + i) ≡ Some x
piece_octets s w p may h i x g =
    let low = may.unacknowledged in
    let a = beginning_get p.octets (drop (p.start - s.una) s.ring) may.octets i x g in
    let b = sym (get_drop (p.start - s.una) s.ring i) ∙ a in
    let c = sym (ap (λ ys. slice_get ys (p.start - s.una + i)) h.ring) ∙ b in
    let d = sym (get_drop (s.una - 1) w (p.start - s.una + i)) ∙ c in
    let e : p.start + i ≡ suc (s.una - 1 + (p.start - s.una + i)) = omega (arith, h.una, low) in
    octet_is w (p.start + i) (s.una - 1 + (p.start - s.una + i)) e ∙ d

new_top : (s : Sender) (w : List ℕ) (p : Piece) → IsSendable s p → SenderStands s w → (b : Bool) → p.ends ≡ b →
    (s.stop ≡ None → after_piece p ≤ suc (length w)) × ((e : ℕ) → s.stop ≡ Some e → after_piece p ≤ suc (suc (length w)))
new_top s w p may h true ends = (
  λ none. absurd (none-some _ (sym none ∙ may.last ends)),
  λ e stop.
      let same : after_octets p ≡ e = cc (may.last ends, stop) in
      let k = (h.top_stop e stop).0 in
      omega (arith, piece_end p, same, k),
)
new_top s w p may h false ends =
    let n = ap length h.ring ∙ length-drop (s.una - 1) w in
    let o = piece_open p ends in (
      λ none. let high = h.top_open none in
          let u : s.una + length s.ring ≤ suc (length w) = omega (arith, h.una, h.una_top, high, n) in
          let m = le_of_max _ _ _ (suc (length w)) may.no_gap high u in omega (arith, o, m),
      λ e stop. let high = (h.top_stop e stop).1 in
          let u : s.una + length s.ring ≤ suc (suc (length w)) = omega (arith, h.una, h.una_top, high, n) in
          let m = le_of_max _ _ _ (suc (suc (length w))) may.no_gap high u in omega (arith, o, m),
    )

pub sender_sends : (s : Sender) (w : List ℕ) (p : Piece) → IsSendable s p → SenderStands s w → SenderStands (after_send p s) w
sender_sends s w p may h =
    let n = new_top s w p may h p.ends refl in record {
      una = h.una;
      ring = h.ring;
      una_top = omega (arith, h.una_top, le_max_left s.top (after_piece p));
      top_open = λ none. max_le _ _ _ (h.top_open none) (n.0 none);
      top_stop = λ e stop. ((h.top_stop e stop).0, max_le _ _ _ (h.top_stop e stop).1 (n.1 e stop));
    }

pub piece_sent : (s : Sender) (w : List ℕ) (p : Piece) → IsSendable s p → SenderStands s w → PieceStands (after_send p s) w p
piece_sent s w p may h = record {
  octets = piece_octets s w p may h;
  last = may.last;
  sent = le_max_right s.top (after_piece p);
}

pub pieces_sent : (s : Sender) (w : List ℕ) (p : Piece) (ps : List Piece) → IsSendable s p → SenderStands s w → All (PieceStands s w) ps →
    All (PieceStands (after_send p s) w) (ps ++ p ∷ [])
pieces_sent s w p ps may h k =
    let more = le_max_left s.top (after_piece p) in
    All-push (PieceStands (after_send p s) w) ps p (
    All-weaker (PieceStands s w) (PieceStands (after_send p s) w) (λ q k. record {
      octets = k.octets;
      last = k.last;
      sent = omega (arith, k.sent, more);
    }) ps k
    ) (piece_sent s w p may h)

pub sends : (size : ℕ) (d : Direction) (w rd : List ℕ) (p : Piece) → MaySend d.sender p → Stands size d w rd →
    Stands size (record d { sender = after_send p d.sender; pieces = d.pieces ++ p ∷ [] }) w rd
sends size d w rd p may h =
    let more = le_max_left d.sender.top (after_piece p) in record {
      sender = sender_sends d.sender w p (sendable d.sender p may) h.sender;
      receiver = record {
        places = h.receiver.places;
        cells = h.receiver.cells;
        held = λ i x g. let k = h.receiver.held i x g in omega (arith, k, more);
        base = h.receiver.base;
        read = h.receiver.read;
        within = h.receiver.within;
        base_top = omega (arith, h.receiver.base_top, more);
        stop = λ e at. let k = h.receiver.stop e at in let l = k.1 in (k.0, omega (arith, l, more));
      };
      window = record {
        top_edge = let k = may.window in max_le _ _ _ h.window.top_edge (omega (arith, piece_end p, k));
        edge = h.window.edge;
        room = h.window.room;
        starts = All-push (StartsWithin d.sender) d.pieces p h.window.starts (let k = may.window in omega (arith, k));
      };
      pieces = pieces_sent d.sender w p d.pieces (sendable d.sender p may) h.sender h.pieces;
      acks = h.acks;
      acknowledged = h.acknowledged;
    }

-- an acknowledgement arrives at a sender, at its right position
pub tests : (a b c : ℕ) → nat_le a b && nat_le b c ≡ true → (a ≤ b) × (b ≤ c)
tests a b c h = by (nat_le a b) (nat_le b c) refl refl where
  by : (s t : Bool) → nat_le a b ≡ s → nat_le b c ≡ t → (a ≤ b) × (b ≤ c)
  by s t e f = grind (arith, nat_tests)

-- that is believed
abbrev pub acknowledged_to : ℕ → ℕ → Sender → Sender
acknowledged_to a window s = record s { una = a; ring = drop (a - s.una) s.ring; edge = max s.edge (a + window) }

pub sender_acked : (s : Sender) (w : List ℕ) (a window : ℕ) → s.una ≤ a → a ≤ s.top → SenderStands s w → SenderStands (acknowledged_to a window s) w
sender_acked s w a window low high h =
    let u = h.una in record {
      una = omega (arith, u, low);
      ring = ap (drop (a - s.una)) h.ring ∙ drop-drop (a - s.una) (s.una - 1) w
          ∙ ap (λ n. drop n w) (let same : s.una - 1 + (a - s.una) ≡ a - 1 = omega (arith, u, low) in same);
      una_top = high;
      top_open = h.top_open;
      top_stop = h.top_stop;
    }

pieces_acked : (s : Sender) (w : List ℕ) (a window : ℕ) (ps : List Piece) → All (PieceStands s w) ps →
    All (PieceStands (acknowledged_to a window s) w) ps
pieces_acked s w a window ps h = All-weaker (PieceStands s w) (PieceStands (acknowledged_to a window s) w) (λ q l. record {
  octets = l.octets;
  last = l.last;
  sent = l.sent;
}) ps h

-- whatever is acknowledged, by whomever
pub any_acked : (s : Sender) (w : List ℕ) (a window : ℕ) (ps : List Piece) → SenderStands s w → All (PieceStands s w) ps →
    SenderStands (after_position a window s) w × All (PieceStands (after_position a window s) w) ps
any_acked s w a window ps h k = by (nat_le s.una a && nat_le a s.top) refl where
  by : (b : Bool) → nat_le s.una a && nat_le a s.top ≡ b →
      SenderStands (after_position a window s) w × All (PieceStands (after_position a window s) w) ps
  by false e = rw e (h, k)
  by true e =
      let t = tests s.una a s.top e in
      rw e (sender_acked s w a window t.0 t.1 h, pieces_acked s w a window ps k)

-- an acknowledgement of B's
pub acks : (size : ℕ) (d : Direction) (w rd : List ℕ) (a : Ack) → AckStands size d.receiver a → Stands size d w rd →
    Stands size (record d { sender = after_position a.position a.window d.sender }) w rd
acks size d w rd a k h = by (nat_le d.sender.una a.position && nat_le a.position d.sender.top) refl where
  by : (b : Bool) → nat_le d.sender.una a.position && nat_le a.position d.sender.top ≡ b →
      Stands size (record d { sender = after_position a.position a.window d.sender }) w rd
  by false e = rw e h
  by true e =
      let t = tests d.sender.una a.position d.sender.top e in
      let low = t.0 in
      let wide = h.window.edge in
      let win = k.window in
      let more = le_max_left d.sender.edge (a.position + a.window) in
      rw e (record {
        sender = sender_acked d.sender w a.position a.window low t.1 h.sender;
        receiver = record {
          places = h.receiver.places;
          cells = h.receiver.cells;
          held = h.receiver.held;
          base = h.receiver.base;
          read = h.receiver.read;
          within = h.receiver.within;
          base_top = h.receiver.base_top;
          stop = h.receiver.stop;
        };
        window = record {
          top_edge = omega (arith, h.window.top_edge, more);
          edge = max_le _ _ _ (omega (arith, wide, low)) (omega (arith, win));
          room = max_le _ _ _ h.window.room k.edge;
          starts = All-weaker (StartsWithin d.sender) (StartsWithin (acknowledged_to a.position a.window d.sender)) (λ q l. omega (arith, l, more))
              d.pieces h.window.starts;
        };
        pieces = pieces_acked d.sender w a.position a.window d.pieces h.pieces;
        acks = h.acks;
        acknowledged = k.position;
      })
