use Rattle.std.proofs.Common.{rules, ◌≡◌, ◌+◌, ◌-◌, ◌≤◌, ℕ, List, length, take, drop, sym, ap, ◌∙◌, arith}
use Rattle.sockets.specs.Queue.{Held}
use Rattle.sockets.proofs.OctetsLemmas.{held_long, part_of}
use Rattle.sockets.proofs.octets.Octets.part.Goals as goal

pub returns : goal.returns
returns c =
    let i = c.self.inside in
    let xs = i.items.items in
    let o = c.args.offset in
    let n = c.args.count in
    let many = ap (λ (h : Held). length h.octets) c.self.view_is in
    let bound : i.end ≤ length xs = search rules in
    let long = held_long xs i.start i.end bound in
    let fits = c.requires in
    let within : i.start + (o + n) ≤ i.end = omega (arith, many, long, fits, c.self.invariant.0) in
    let same : i.start + o + n - (i.start + o) ≡ n = omega arith in
    ap (λ (m : ℕ). take m (drop (i.start + o) c.deref.result.now)) same
    ∙ (ap (λ (l : List ℕ). take n (drop (i.start + o) l)) c.deref.ensures.value
    ∙ (sym (part_of xs i.start i.end o n within) ∙ ap (λ (h : Held). take n (drop o h.octets)) c.self.view_is))
