use Rattle.std.proofs.Common.{rules, ◌+◌, ◌≤◌, ℕ, List, length, ap, ◌∙◌, arith}
use Rattle.sockets.specs.Queue.{Held, octets_forward}
use Rattle.sockets.proofs.OctetsLemmas.{forward_within, held_long}
use Rattle.sockets.proofs.octets.Octets.bring_forward.Goals as goal

pub returns : goal.returns
returns c =
    let i = c.self.inside in
    let xs = i.items.items in
    let o = c.args.offset in
    let n = c.args.count in
    let many = ap (λ (h : Held). length h.octets) c.self.view_is in
    let bound : i.end ≤ length xs = search rules in
    let long = held_long xs i.start i.end bound in
    let fits = c.requires in
    let within : i.start + (o + n) ≤ i.end = omega (arith, many, long, fits, c.self.invariant.0) in
    ap (λ (l : List ℕ). record { octets = l; limit = i.limit })
    (forward_within xs c.rotate_within.new.items.items i.start i.end o n within bound c.rotate_within.ensures.items)
    ∙ ap (λ (h : Held). record { octets = octets_forward o n h.octets; limit = h.limit }) c.self.view_is
