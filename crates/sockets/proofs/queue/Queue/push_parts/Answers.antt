use Rattle.std.proofs.Common.{◌≡◌, ◌+◌, ◌++◌, length, ap, ◌∙◌, arith, length-append}
use Rattle.sockets.specs.Queue.{Held, total}
use Rattle.sockets.proofs.QueueLemmas.{total_append}
use Rattle.sockets.proofs.queue.Queue.push_parts.Goals as goal

pub invariant_of-self : goal.invariant_of-self
invariant_of-self g c =
    let counted : total c.push_back_reserved.new.self.items ≡ total c.self.inside.entries.items + (length c.args.front.now + length c.args.back.now) =
    ap total c.push_back_reserved.ensures.items
    ∙ total_append c.self.inside.entries.items (record { meta = c.args.meta; len = length c.args.front.now + length c.args.back.now }) in
    let held : length c.append_parts.new.self.octets ≡ length c.self.inside.octets.octets + length (c.args.front.now ++ c.args.back.now) =
    ap (λ (o : Held). length o.octets) c.append_parts.ensures ∙ length-append c.self.inside.octets.octets (c.args.front.now ++ c.args.back.now) in (
      omega (arith, counted, held, c.self.invariant.0, length-append c.args.front.now c.args.back.now),
      omega (arith, c.push_back_reserved.ensures.len, c.if-len-self.false, c.len.ensures),
      omega (arith, c.push_back_reserved.ensures.capacity, c.self.invariant.2),
    )
