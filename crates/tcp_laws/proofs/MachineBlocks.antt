-- What holds of the blocks that two machines told.
use Rattle.std.proofs.Common.{◌≡◌, ◌≤◌, ◌-◌, ℕ, suc, List, take, drop, sym, ap, ◌∙◌, subst, arith, Some, slice_get, inl, inr}
use Rattle.std.specs.List.{Contains}
use Rattle.std.proofs.lemmas.List.{length-take-le}
use Rattle.std.proofs.lemmas.List.Elements.{All-contains, All-weaker}
use Rattle.tcp_machine.specs.Pieces.{octet_at}
use Rattle.tcp_laws.specs.Machines.{Sent, Side, unopened, Pair}
use Rattle.tcp_laws.specs.Blocks.{HasOctet, BlockHolds, BlocksOfSegment, BlocksHold}
use Rattle.tcp_laws.proofs.Lists.{octet_is, get_within, beginning_get}
use Rattle.tcp_laws.proofs.MachineStands.{IsHeld, BlockStands, SentStands}
use Rattle.tcp_laws.proofs.MachineRuns.{Ends, turned, Holds, turns, all, moves, at_first}

-- an octet that was read, or is held, is that of the peer's program
has_octet : (e : Ends) (x y : Side) → Holds e x y → (p : ℕ) → 1 ≤ p → IsHeld x.connection.reception.receiver p →
    (o : ℕ) × HasOctet x p o × (octet_at y.written p ≡ Some o)
has_octet e x y h p some (inl low) =
    let t = h.streams.here.receiver in
    let r = x.connection.reception.receiver in
    let within = t.within in
    let n : suc (p - 1) ≡ p = omega (arith, some) in
    let len = length-take-le (r.base - 1) y.written (omega (arith, within)) in
    let g = get_within (take (r.base - 1) y.written) (p - 1) (omega (arith, len, low, some)) in
    let read = ap (λ (w : List ℕ). slice_get w (p - 1)) t.read ∙ g.1 in
    let whole = beginning_get (take (r.base - 1) y.written) y.written (drop (r.base - 1) y.written, Rattle.std.proofs.lemmas.List.take-append-drop (r.base - 1) y.written) (p - 1) g.0 g.1 in
    (g.0, inl (octet_is x.read p (p - 1) (sym n) ∙ read), octet_is y.written p (p - 1) (sym n) ∙ whole)
has_octet e x y h p some (inr g) =
    let t = h.streams.here.receiver in
    let at = g.2 in
    let c = t.cells g.0 g.1 g.3 in
    (g.1, inr (g.0, at, g.3), subst (λ q. octet_at y.written q ≡ Some g.1) at c)

blocks_of_segment : (e : Ends) (x y : Side) → Holds e x y → (k : Sent) → Contains x.sent k → BlocksOfSegment e.j x y k
blocks_of_segment e x y h k there =
    let s = x.connection.transmission.sender in
    let r = x.connection.reception.receiver in
    let st = (All-contains (SentStands e.i e.j s x.written r) x.sent k h.streams.own.sent there).blocks in record {
      numbers = st.numbers;
      blocks = All-weaker (BlockStands r k.acknowledged) (BlockHolds x y k) (λ b bs. record {
        some = bs.some;
        beyond = bs.beyond;
        arrived = λ p low high. let f = bs.beyond in has_octet e x y h p (omega (arith, low, f)) (bs.held p low high);
      }) k.blocks st.blocks;
      alone = st.alone;
      none = st.none;
    }

pub blocks_hold : BlocksHold
blocks_hold i j room_a size_a room_b size_b settings_a settings_b ms small_a small_b run =
    let e : Ends = record { i = i; j = j; room = room_a; size = size_a; peers_room = room_b; peers_size = size_b } in
    let start : Pair = record { a = unopened room_a size_a settings_a; b = unopened room_b size_b settings_b } in
    let h = moves e ms start small_a small_b run (at_first e settings_a settings_b) in (
      blocks_of_segment e (all e start ms).a (all e start ms).b h,
      blocks_of_segment (turned e) (all e start ms).b (all e start ms).a (turns e (all e start ms).a (all e start ms).b h),
    )
