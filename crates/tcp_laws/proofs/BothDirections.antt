-- A run of a connection is a run of each direction.
use Rattle.std.proofs.Common.{◌≡◌, ◌<◌, ℕ, zero, suc, true, false, List, [], ◌∷◌, ◌++◌, length, map}
use Rattle.std.proofs.Common.{refl, sym, ap, subst, arith, get_or}
use Rattle.std.specs.List.{Contains}
use Rattle.tcp_machine.specs.Pieces.{Piece, Ack}
use Rattle.tcp_laws.specs.Run.{Event, Direction, AreRun, after, after_all, ack_now}
use Rattle.tcp_laws.specs.Connection.{Packet, Connection, Act, Writes, Closes, Sends, Gets, Reads, IsTold, Move, OfA, OfB, swap}
use Rattle.tcp_laws.specs.Connection.{MayAct, after_act, after_move, AreMoves, own, other, from_a, from_b, opened_connection, ConnectionsKeep}
use Rattle.tcp_laws.proofs.Runs.{streams_keep}

abbrev piece_in : Packet → Piece
piece_in k = k.piece

abbrev ack_in : Packet → Ack
ack_in k = k.ack

-- the direction from A
abbrev direction : Connection → Direction
direction c =
    record { sender = c.a.sender; receiver = c.b.receiver; pieces = map piece_in c.sent_a; acks = map ack_in c.sent_b }

contains_map : {X Y : Type 0} (f : X → Y) (xs : List X) (x : X) (k : ℕ) → k < length xs → get_or xs k x ≡ x → Contains (map f xs) (f x)
contains_map f [] x k low e = absurd (omega arith)
contains_map f (y ∷ xs) x zero low e = (zero, omega arith, ap f e)
contains_map f (y ∷ xs) x (suc k) low e =
    let r = contains_map f xs x k (omega arith) e in
    let l = r.1 in
    (suc r.0, omega (arith, l), r.2)

map_push : {X Y : Type 0} (f : X → Y) (xs : List X) (x : X) → map f xs ++ f x ∷ [] ≡ map f (xs ++ x ∷ [])
map_push f [] x = refl
map_push f (y ∷ xs) x = ap (λ ys. f y ∷ ys) (map_push f xs x)

-- a list of events takes a direction to another one
abbrev Leads : ℕ → Direction → List Event → Direction → Type 0
Leads i d es d' = AreRun i d es × (after_all i d es ≡ d')

leads-append : (i : ℕ) (es fs : List Event) (d d' d'' : Direction) → Leads i d es d' → Leads i d' fs d'' → Leads i d (es ++ fs) d''
leads-append i [] fs d d' d'' h k = subst (λ x. Leads i x fs d'') (sym h.1) k
leads-append i (e ∷ es) fs d d' d'' h k =
    let r = leads-append i es fs (after i e d) d' d'' (h.0.1, h.1) k in
    ((h.0.0, r.0), r.1)

own_leads : (i j : ℕ) (act : Act) (c : Connection) → MayAct act c → Leads i (direction c) (own act) (direction (after_act i j act c))
own_leads i j (Writes octets) c may = ((may, tt), refl)
own_leads i j Closes c may = ((may, tt), refl)
own_leads i j (Sends p window) c may = (
  (may.0, tt),
  ap (λ ps. record (direction (after_act i j (Sends p window) c)) { pieces = ps })
      (map_push piece_in c.sent_a (record { piece = p; ack = ack_now window c.a.receiver })),
)
own_leads i j (Gets k takes true) c may = ((((contains_map ack_in c.sent_b k may.0.0 may.0.1 may.0.2), may.2), tt), refl)
own_leads i j (Gets k takes false) c may = (tt, refl)
own_leads i j (Reads octets) c may = (tt, refl)
own_leads i j IsTold c may = (tt, refl)

other_leads : (i j : ℕ) (act : Act) (c : Connection) → MayAct act c → Leads j (direction (swap c)) (other act) (direction (swap (after_act i j act c)))
other_leads i j (Writes octets) c may = (tt, refl)
other_leads i j Closes c may = (tt, refl)
other_leads i j (Sends p window) c may = (
  (may.1, tt),
  ap (λ ks. record (direction (swap (after_act i j (Sends p window) c))) { acks = ks })
      (map_push ack_in c.sent_a (record { piece = p; ack = ack_now window c.a.receiver })),
)
other_leads i j (Gets k true takes) c may = ((((contains_map piece_in c.sent_b k may.0.0 may.0.1 may.0.2), may.1), tt), refl)
other_leads i j (Gets k false takes) c may = (tt, refl)
other_leads i j (Reads octets) c may = ((may, tt), refl)
other_leads i j IsTold c may = ((may, tt), refl)

abbrev connection_at_last : ℕ → ℕ → Connection → List Move → Connection
connection_at_last i j c [] = c
connection_at_last i j c (m ∷ ms) = connection_at_last i j (after_move i j m c) ms

a_leads : (i j : ℕ) (ms : List Move) (c : Connection) → AreMoves i j c ms → Leads i (direction c) (from_a ms) (direction (connection_at_last i j c ms))
a_leads i j [] c run = (tt, refl)
a_leads i j (OfA act ∷ ms) c run =
    leads-append i (own act) (from_a ms) (direction c) (direction (after_act i j act c)) _ (own_leads i j act c run.0)
    (a_leads i j ms (after_act i j act c) run.1)
a_leads i j (OfB act ∷ ms) c run =
    leads-append i (other act) (from_a ms) (direction c) (direction (swap (after_act j i act (swap c)))) _ (other_leads j i act (swap c) run.0)
    (a_leads i j ms (swap (after_act j i act (swap c))) run.1)

b_leads : (i j : ℕ) (ms : List Move) (c : Connection) → AreMoves i j c ms →
    Leads j (direction (swap c)) (from_b ms) (direction (swap (connection_at_last i j c ms)))
b_leads i j [] c run = (tt, refl)
b_leads i j (OfA act ∷ ms) c run =
    leads-append j (other act) (from_b ms) (direction (swap c)) (direction (swap (after_act i j act c))) _ (other_leads i j act c run.0)
    (b_leads i j ms (after_act i j act c) run.1)
b_leads i j (OfB act ∷ ms) c run =
    leads-append j (own act) (from_b ms) (direction (swap c)) (direction (after_act j i act (swap c))) _ (own_leads j i act (swap c) run.0)
    (b_leads i j ms (swap (after_act j i act (swap c))) run.1)

pub connections_keep : ConnectionsKeep
connections_keep i j room_a size_a window_a room_b size_b window_b ms small_a told_a small_b told_b run =
    let c = opened_connection room_a size_a window_a room_b size_b window_b in (
      streams_keep i room_a size_b window_b (from_a ms) (record { small = small_b; told = told_b; run = (a_leads i j ms c run).0 }),
      streams_keep j room_b size_a window_a (from_b ms) (record { small = small_a; told = told_a; run = (b_leads i j ms c run).0 }),
    )
