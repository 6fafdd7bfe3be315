use Rattle.std.proofs.Common.{◌≡◌, ℕ, ◌<◌, length, take, length-append, ap, ◌∙◌, arith}
use Rattle.tcp_wire.specs.Options.{front_text, sack_text, sent_ranges, room_after, ranges_of}
use Rattle.tcp_wire.proofs.Lengths.{length-sack_text, length-sack_none}
use Rattle.tcp_wire.proofs.options.TcpOptions.len.Goals as goal

pub returns-then-count-eq0-clause-value : goal.returns-then-count-eq0-clause-value
returns-then-count-eq0-clause-value c =
    let o = c.args.self.now in
    let front = c.front_len-front.ensures.value in
    let count : c.sent_count-count.result ≡ length (sent_ranges o) = c.sent_count-count.ensures.value
    ∙ ap (λ (n : ℕ). length (take (room_after n) (ranges_of o.sack_ranges))) front in
    let none = length-sack_none (sent_ranges o) (omega (arith, count, c.if-count-eq0.true)) in
    omega (arith, front, none, length-append (front_text o) (sack_text (sent_ranges o)))

pub returns-else-count-eq0-clause-value : goal.returns-else-count-eq0-clause-value
returns-else-count-eq0-clause-value c =
    let o = c.args.self.now in
    let front = c.front_len-front.ensures.value in
    let count : c.sent_count-count.result ≡ length (sent_ranges o) = c.sent_count-count.ensures.value
    ∙ ap (λ (n : ℕ). length (take (room_after n) (ranges_of o.sack_ranges))) front in
    let some : 0 < length (sent_ranges o) = omega (arith, count, c.if-count-eq0.false) in
    omega (arith, front, count, length-sack_text (sent_ranges o) some, length-append (front_text o) (sack_text (sent_ranges o)))
