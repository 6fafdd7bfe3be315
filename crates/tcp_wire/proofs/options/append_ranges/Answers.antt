use Rattle.std.proofs.Common.{ℕ, ◌+◌, ◌-◌, ◌*◌, ◌<◌, ◌≤◌, ◌++◌, ◌∙◌, length, ap, List, None, get_or, arith}
use Rattle.tcp_wire.specs.Options.{range_text}
use Rattle.tcp_wire.proofs.Emitting.{past, full, more, none_there, room_for}
use Rattle.tcp_wire.proofs.options.append_ranges.Goals as goal
use Rattle.tcp_wire.proofs.options.append_ranges.Goals.{in-Some+then-left-gt0, in-Some+else-left-gt0, in_default}

pub loop-range-preserved : goal.loop-range-preserved
loop-range-preserved c =
    let places = c.args.ranges.now in
    let i : ℕ = c.loop-range.range-index in
    let left : ℕ = c.loop-range.left in
    let out : List ℕ = c.loop-range.out in
    let kept = c.loop-range.invariant in
    let lt : i < length places = omega (arith, c.loop-range-test.true) in
    elim c.match-range.branch [
      | in-Some+then-left-gt0 w ↦
          let some : 0 < left = w.if-left-gt0.true in
          let room : length (out ++ range_text w.in-Some.range) + 8 * (left - 1) ≤ 40 = room_for out w.in-Some.range left some kept.room in
          rw (w.out-is, w.left-is, w.append.ensures, w.octets_of.ensures) record {
            items = more out w.in-Some.range places i left (left - 1) lt w.in-Some.is (omega (arith, some)) ∙ kept.items;
            room = room;
          }
      | in-Some+else-left-gt0 w ↦
          rw (w.out-is, w.left-is) record {
            items = ap (λ (xs : List ℕ). out ++ xs) (full places i left (omega (arith, w.if-left-gt0.false))) ∙ kept.items;
            room = kept.room;
          }
      | in_default w ↦
          rw (w.out-is, w.left-is) record {
            items = ap (λ (xs : List ℕ). out ++ xs) (past places i left lt (none_there (get_or places i None) w.in_default.not-Some)) ∙ kept.items;
            room = kept.room;
          }
    ]
