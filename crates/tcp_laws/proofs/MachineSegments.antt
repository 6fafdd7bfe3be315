-- What holds of the segments that two machines sent.
use Rattle.std.proofs.Common.{◌+◌, length, arith}
use Rattle.std.specs.List.{Contains}
use Rattle.std.proofs.lemmas.List.Elements.{All-contains}
use Rattle.tcp_laws.specs.Machines.{Sent, Side, unopened, IsPlain, Pair, SegmentHolds, SegmentsHold}
use Rattle.tcp_laws.proofs.MachineStands.{SentStands}
use Rattle.tcp_laws.proofs.MachineRuns.{Ends, turned, Holds, turns, all, moves, at_first}

segment_holds : (e : Ends) (x y : Side) → Holds e x y → (k : Sent) → Contains x.sent k → IsPlain k.segment → SegmentHolds e.i e.j x k
segment_holds e x y h k there is =
    let s = x.connection.transmission.sender in
    let st = (All-contains (SentStands e.i e.j s x.written x.connection.reception.receiver) x.sent k h.streams.own.sent there).plain is in record {
      number = st.number;
      octets = st.piece.octets;
      last = λ ends.
          let q = (h.streams.own.sender.top_stop (k.start + length k.segment.octets) (st.piece.last ends)).0 in
          omega (arith, q);
      ack = st.ack;
      acknowledged = st.known;
    }

pub segments_hold : SegmentsHold
segments_hold i j room_a size_a room_b size_b settings_a settings_b ms small_a small_b run =
    let e : Ends = record { i = i; j = j; room = room_a; size = size_a; peers_room = room_b; peers_size = size_b } in
    let start : Pair = record { a = unopened room_a size_a settings_a; b = unopened room_b size_b settings_b } in
    let h = moves e ms start small_a small_b run (at_first e settings_a settings_b) in (
      segment_holds e (all e start ms).a (all e start ms).b h,
      segment_holds (turned e) (all e start ms).b (all e start ms).a (turns e (all e start ms).a (all e start ms).b h),
    )
