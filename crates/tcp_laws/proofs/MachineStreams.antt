-- What a step of one side's sender or receiver leaves.
use Rattle.std.proofs.Common.{◌≡◌, ◌≤◌, ◌+◌, ◌-◌, ℕ, Bool, true, false, List, ◌++◌, length, drop}
use Rattle.std.proofs.Common.{refl, sym, ap, ◌∙◌, arith, Option, Some, None}
use Rattle.std.specs.Prelude.{max, nat_le, ◌&&◌}
use Rattle.std.specs.List.{All}
use Rattle.std.proofs.lemmas.Option.{none-some}
use Rattle.std.proofs.lemmas.List.{take-append-le, length-append, length-drop}
use Rattle.std.proofs.lemmas.List.Elements.{All-weaker}
use Rattle.tcp_machine.specs.Pieces.{IsBeginning, Piece}
use Rattle.tcp_machine.specs.Sending.{Sender, MayWrite, after_write, after_close, after_position}
use Rattle.tcp_machine.specs.Receiving.{Receiver, in_order, expected, with_piece, after_read}
use Rattle.tcp_laws.specs.Machines.{Sent}
use Rattle.tcp_laws.proofs.Lists.{octet_append}
use Rattle.tcp_laws.proofs.Stands.{SenderStands, PieceStands}
use Rattle.tcp_laws.proofs.SendingSteps.{sender_writes, sender_closes, sender_acked, tests}
use Rattle.tcp_laws.proofs.ReceivingSteps.{takes, expected_kept, left, expected_read}
use Rattle.tcp_laws.proofs.MachineStands.{piece_of, IsHeld, BlockStands, SentStands, Given, Streams}
use Rattle.tcp_laws.proofs.HeldOctets.{held_taken, held_read}

-- what was sent stands with another sender and receiver
pub sent_stands : (i j : ℕ) (s s' : Sender) (w w' : List ℕ) (r r' : Receiver) →
    ((p : Piece) → PieceStands s w p → PieceStands s' w' p) → s.una + s.room ≤ s'.una + s'.room → expected r ≤ expected r' → ((p : ℕ) → IsHeld r p → IsHeld r' p) →
    (sent : List Sent) → All (SentStands i j s w r) sent → All (SentStands i j s' w' r') sent
sent_stands i j s s' w w' r r' pieces near far held sent h = All-weaker (SentStands i j s w r) (SentStands i j s' w' r') (λ k st. record {
  blocks = let b = st.blocks in record {
    numbers = b.numbers;
    blocks = All-weaker (BlockStands r k.acknowledged) (BlockStands r' k.acknowledged) (λ x bs. record {
      some = bs.some;
      beyond = bs.beyond;
      held = λ p low high. held p (bs.held p low high);
    }) k.blocks b.blocks;
    alone = b.alone;
    none = b.none;
  };
  syn = st.syn;
  plain = λ is. let p = st.plain is in let n = p.near in let e = p.known in record {
    number = p.number;
    ack = p.ack;
    piece = pieces (piece_of k) p.piece;
    near = omega (arith, n, near);
    known = omega (arith, e, far);
  };
}) sent h

-- all that was sent lies within the ring, and the end after it
pub top_near : (s : Sender) (w : List ℕ) → SenderStands s w → s.top ≤ s.una + length s.ring + 1
top_near s w h = by s.stop refl where
  n : length s.ring ≡ length w - (s.una - 1)
  n = ap length h.ring ∙ length-drop (s.una - 1) w

  by : (o : Option ℕ) → s.stop ≡ o → s.top ≤ s.una + length s.ring + 1
  by None e = let high = h.top_open e in omega (arith, h.una, h.una_top, high, n)
  by (Some q) e = let high = (h.top_stop q e).1 in omega (arith, h.una, h.una_top, high, n)

-- the window's edge is of no matter
pub edged : (g : Given) (s : Sender) (r : Receiver) (ring : List ℕ) (edge : ℕ) → ring ≡ s.ring → Streams g s r →
    Streams g (record s { ring = ring; edge = edge }) r
edged g s r ring edge same h =
    let s' : Sender = record s { ring = ring; edge = edge } in
    let o = h.own in
    let t = h.there.receiver in record {
      own = record {
        sender = record {
          una = o.sender.una;
          ring = same ∙ o.sender.ring;
          una_top = o.sender.una_top;
          top_open = o.sender.top_open;
          top_stop = o.sender.top_stop;
        };
        room = o.room;
        ring = let n = ap length same in omega (arith, n, o.ring);
        sent = sent_stands g.i g.j s s' g.written g.written r r (λ p k. record { octets = k.octets; last = k.last; sent = k.sent })
            (omega arith) (omega arith) (λ p l. l) g.sent o.sent;
      };
      there = record {
        receiver = record {
          places = t.places;
          cells = t.cells;
          held = t.held;
          base = t.base;
          read = t.read;
          within = t.within;
          base_top = t.base_top;
          stop = t.stop;
        };
        acknowledged = h.there.acknowledged;
      };
      here = h.here;
    }

-- octets are written
pub wrote : (g : Given) (s : Sender) (r : Receiver) (xs : List ℕ) → MayWrite s xs → Streams g s r →
    Streams (record g { written = g.written ++ xs }) (after_write xs s) r
wrote g s r xs may h =
    let w = g.written in
    let o = h.own in
    let t = h.there.receiver in
    let b = g.peer.connection.reception.receiver in
    let room = may.room in record {
      own = record {
        sender = sender_writes s w xs may o.sender;
        room = o.room;
        ring = omega (arith, room, o.room, length-append s.ring xs);
        sent = sent_stands g.i g.j s (after_write xs s) w (w ++ xs) r r (λ p k. record {
          octets = λ i x e. octet_append w xs (p.start + i) x (k.octets i x e);
          last = k.last;
          sent = k.sent;
        }) (omega arith) (omega arith) (λ p l. l) g.sent o.sent;
      };
      there = record {
        receiver = record {
          places = t.places;
          cells = λ i x e. octet_append w xs (b.base + i) x (t.cells i x e);
          held = t.held;
          base = t.base;
          read = let at : b.base - 1 ≤ length w = omega (arith, t.base, t.within) in t.read ∙ sym (take-append-le (b.base - 1) w xs at);
          within = omega (arith, t.within, length-append w xs);
          base_top = t.base_top;
          stop = t.stop;
        };
        acknowledged = h.there.acknowledged;
      };
      here = h.here;
    }

-- the end is queued
pub closed : (g : Given) (s : Sender) (r : Receiver) → s.stop ≡ None → Streams g s r → Streams g (after_close s) r
closed g s r opened h =
    let w = g.written in
    let o = h.own in
    let t = h.there.receiver in record {
      own = record {
        sender = sender_closes s w opened o.sender;
        room = o.room;
        ring = o.ring;
        sent = sent_stands g.i g.j s (after_close s) w w r r (λ p k. record {
          octets = k.octets;
          last = λ ends. absurd (none-some _ (sym opened ∙ k.last ends));
          sent = k.sent;
        }) (omega arith) (omega arith) (λ p l. l) g.sent o.sent;
      };
      there = record {
        receiver = record {
          places = t.places;
          cells = t.cells;
          held = t.held;
          base = t.base;
          read = t.read;
          within = t.within;
          base_top = t.base_top;
          stop = λ e at. absurd (none-some e (sym opened ∙ (t.stop e at).0));
        };
        acknowledged = h.there.acknowledged;
      };
      here = h.here;
    }

-- a position is acknowledged that the peer has in order
pub acked : (g : Given) (s : Sender) (r : Receiver) (a window : ℕ) → a ≤ expected g.peer.connection.reception.receiver → Streams g s r →
    Streams g (after_position a window s) r
acked g s r a window far h = by (nat_le s.una a && nat_le a s.top) refl where
  by : (b : Bool) → nat_le s.una a && nat_le a s.top ≡ b → Streams g (after_position a window s) r
  by false e = rw e h
  by true e =
      let t = tests s.una a s.top e in
      let low = t.0 in
      let s' : Sender = record s { una = a; ring = drop (a - s.una) s.ring; edge = max s.edge (a + window) } in
      let o = h.own in
      let v = h.there.receiver in
      let n = length-drop (a - s.una) s.ring in
      rw e (record {
        own = record {
          sender = sender_acked s g.written a window low t.1 o.sender;
          room = o.room;
          ring = omega (arith, n, o.ring);
          sent = sent_stands g.i g.j s s' g.written g.written r r (λ p k. record { octets = k.octets; last = k.last; sent = k.sent })
              (omega (arith, low)) (omega arith) (λ p l. l) g.sent o.sent;
        };
        there = record {
          receiver = record {
            places = v.places;
            cells = v.cells;
            held = v.held;
            base = v.base;
            read = v.read;
            within = v.within;
            base_top = v.base_top;
            stop = v.stop;
          };
          acknowledged = far;
        };
        here = h.here;
      })

-- a piece of the peer's is taken
pub took : (g : Given) (s : Sender) (r : Receiver) (p : Piece) → PieceStands g.peer.connection.transmission.sender g.peer.written p →
    Streams g s r → Streams g s (with_piece p r)
took g s r p k h =
    let far = expected_kept r p in
    let o = h.own in record {
      own = record {
        sender = o.sender;
        room = o.room;
        ring = o.ring;
        sent = sent_stands g.i g.j s s g.written g.written r (with_piece p r) (λ q l. l) (omega arith) far (held_taken r p) g.sent o.sent;
      };
      there = h.there;
      here = record {
        receiver = takes g.size g.peer.connection.transmission.sender r g.peer.written g.read p k h.here.receiver;
        acknowledged = omega (arith, h.here.acknowledged, far);
      };
    }

-- octets are read
pub got : (g : Given) (s : Sender) (r : Receiver) (xs : List ℕ) → IsBeginning xs (in_order r.cells) → Streams g s r →
    Streams (record g { read = g.read ++ xs }) s (after_read (length xs) r)
got g s r xs b h =
    let far = expected_read g.size g.peer.connection.transmission.sender r g.peer.written g.read xs b h.here.receiver in
    let o = h.own in record {
      own = record {
        sender = o.sender;
        room = o.room;
        ring = o.ring;
        sent = sent_stands g.i g.j s s g.written g.written r (after_read (length xs) r) (λ q l. l) (omega arith) far (held_read r (length xs)) g.sent o.sent;
      };
      there = h.there;
      here = record {
        receiver = left g.size g.peer.connection.transmission.sender r g.peer.written g.read xs b h.here.receiver;
        acknowledged = omega (arith, h.here.acknowledged, far);
      };
    }
