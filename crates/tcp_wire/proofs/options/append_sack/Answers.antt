use Rattle.std.proofs.Common.{◌≡◌, ℕ, ◌∙◌, length, take, ap}
use Rattle.tcp_wire.specs.Options.{room_after, ranges_of}
use Rattle.tcp_wire.proofs.Emitting.{sack, no_sack}
use Rattle.tcp_wire.proofs.options.append_sack.Goals as goal

pub returns-then-count-gt0 : goal.returns-then-count-gt0
returns-then-count-gt0 c =
    let ranges = ranges_of c.args.ranges.now in
    let count : c.sent_count-count.result ≡ length (take (room_after (length c.args.out.now)) ranges) =
    c.sent_count-count.ensures.value ∙ ap (λ (n : ℕ). length (take (room_after n) ranges)) c.len.ensures.value in
    rw (c.append_ranges.ensures, c.append.ensures)
    (sack c.args.out.now c.sent_count-count.result (room_after (length c.args.out.now)) ranges count c.if-count-gt0.true)

pub returns-else-count-gt0 : goal.returns-else-count-gt0
returns-else-count-gt0 c =
    let ranges = ranges_of c.args.ranges.now in
    let count : c.sent_count-count.result ≡ length (take (room_after (length c.args.out.now)) ranges) =
    c.sent_count-count.ensures.value ∙ ap (λ (n : ℕ). length (take (room_after n) ranges)) c.len.ensures.value in
    no_sack c.args.out.now c.sent_count-count.result (room_after (length c.args.out.now)) ranges count c.if-count-gt0.false
