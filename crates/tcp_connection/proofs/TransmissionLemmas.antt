-- What the sending side does keeps its bounds.
use Rattle.std.proofs.Common.{◌≡◌, ◌+◌, ◌-◌, ◌≤◌, ◌<◌, ◌^◌, ℕ, List, ◌++◌, length, drop, arith, Option, Some, None}
use Rattle.std.specs.Prelude.{max}
use Rattle.std.proofs.lemmas.List.{length-drop, length-append}
use Rattle.tcp_machine.specs.Sending.{Sender}
use Rattle.tcp_connection.specs.Details.Bounds.{last, last_for, last_possible_for, IsWithin}

-- an acknowledgement
pub acknowledged : (s : Sender) (position edge : ℕ) → IsWithin s → s.una ≤ position → position ≤ s.top → edge < 2 ^ 63 →
    IsWithin (record s { una = position; ring = drop (position - s.una) s.ring; edge = edge })
acknowledged s position edge h low high e = by s.stop s.una s.ring s.top h.ring h.room h.unacknowledged h.sent h.bounded low high where
  by : (stop : Option ℕ) (una : ℕ) (ring : List ℕ) (top : ℕ) → length ring ≤ s.room → s.room ≤ 2 ^ 30 →
      una + length ring ≤ last_for stop (una + length ring) → top ≤ last_for stop (una + length ring) →
      last_possible_for stop (una + length ring) ≤ 2 ^ 62 + 1 → una ≤ position → position ≤ top →
      IsWithin (record s { una = position; ring = drop (position - una) ring; stop = stop; top = top; edge = edge })
  by None una ring top a b c d f l k =
      let left = length-drop (position - una) ring in
      record {
        ring = omega (arith, left, a);
        room = b;
        unacknowledged = omega arith;
        sent = omega (arith, left, d, l, k);
        bounded = omega (arith, left, f, d, l, k);
        edge = e;
      }
  by (Some end) una ring top a b c d f l k =
      let left = length-drop (position - una) ring in
      record {
        ring = omega (arith, left, a);
        room = b;
        unacknowledged = omega (arith, left, c, d, l, k);
        sent = d;
        bounded = f;
        edge = e;
      }

-- the program closes
pub closed : (s : Sender) → IsWithin s → s.stop ≡ None → IsWithin (record s { stop = Some (s.una + length s.ring) })
closed s h open_ = by s.stop open_ h.sent h.bounded where
  by : (stop : Option ℕ) → stop ≡ None → s.top ≤ last_for stop (s.una + length s.ring) →
      last_possible_for stop (s.una + length s.ring) ≤ 2 ^ 62 + 1 → IsWithin (record s { stop = Some (s.una + length s.ring) })
  by None o d f = record {
    ring = h.ring;
    room = h.room;
    unacknowledged = omega arith;
    sent = omega (arith, d);
    bounded = f;
    edge = h.edge;
  }
  by (Some end) o d f = absurd cc

-- it writes
pub written : (s : Sender) (octets : List ℕ) → IsWithin s → s.stop ≡ None → length s.ring + length octets ≤ s.room →
    s.una + length s.ring + length octets ≤ 2 ^ 62 → IsWithin (record s { ring = s.ring ++ octets })
written s octets h open_ room end = by s.stop open_ h.sent where
  longer : length (s.ring ++ octets) ≡ length s.ring + length octets
  longer = length-append s.ring octets

  by : (stop : Option ℕ) → stop ≡ None → s.top ≤ last_for stop (s.una + length s.ring) →
      IsWithin (record s { ring = s.ring ++ octets; stop = stop })
  by None o d = record {
    ring = omega (arith, longer, room);
    room = h.room;
    unacknowledged = omega arith;
    sent = omega (arith, longer, d);
    bounded = omega (arith, longer, end);
    edge = h.edge;
  }
  by (Some e) o d = absurd cc

-- it sends a piece
pub sent : (s : Sender) (after : ℕ) → IsWithin s → after ≤ last s → IsWithin (record s { top = max s.top after })
sent s after h a = record {
  ring = h.ring;
  room = h.room;
  unacknowledged = h.unacknowledged;
  sent = omega (arith, h.sent, a);
  bounded = h.bounded;
  edge = h.edge;
}

-- the position after all that was sent
pub bounded : (s : Sender) → IsWithin s → s.top ≤ 2 ^ 62 + 1
bounded s h = by s.stop h.sent h.bounded where
  by : (stop : Option ℕ) → s.top ≤ last_for stop (s.una + length s.ring) →
      last_possible_for stop (s.una + length s.ring) ≤ 2 ^ 62 + 1 → s.top ≤ 2 ^ 62 + 1
  by None a b = omega (arith, a, b)
  by (Some end) a b = omega (arith, a, b)

-- the position after all that may be sent
pub last_bounded : (s : Sender) → IsWithin s → last s ≤ 2 ^ 62 + 1
last_bounded s h = by s.stop h.bounded where
  by : (stop : Option ℕ) → last_possible_for stop (s.una + length s.ring) ≤ 2 ^ 62 + 1 →
      last_for stop (s.una + length s.ring) ≤ 2 ^ 62 + 1
  by None b = omega (arith, b)
  by (Some end) b = b

-- the first position that isn't acknowledged
pub una_bounded : (s : Sender) → IsWithin s → s.una ≤ 2 ^ 62 + 1
una_bounded s h = by s.stop h.unacknowledged h.bounded where
  by : (stop : Option ℕ) → s.una + length s.ring ≤ last_for stop (s.una + length s.ring) →
      last_possible_for stop (s.una + length s.ring) ≤ 2 ^ 62 + 1 → s.una ≤ 2 ^ 62 + 1
  by None a b = omega (arith, b)
  by (Some end) a b = omega (arith, a, b)
