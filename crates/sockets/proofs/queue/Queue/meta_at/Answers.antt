use Rattle.std.proofs.Common.{rules, ◌<◌, ◌≤◌, ℕ, List, Option, length, sym, ap, ◌∙◌, slice_get}
use Rattle.std.specs.Option.{option_map}
use Rattle.sockets.specs.Queue.{Queued}
use Rattle.sockets.proofs.QueueLemmas.{none_cut, nth_cut}
use Rattle.sockets.proofs.queue.Queue.meta_at.Goals as goal

pub returns-in-Some : goal.returns-in-Some
returns-in-Some g c =
    let q = c.self.inside in
    let i = c.args.index in
    let e = c.in-Some.entry.now in
    let long : i < length q.entries.items = search rules in
    sym (ap (λ (p : Option (g.row.M.Denot × List ℕ)). option_map (λ p. p.0) p)
    (sym (ap (λ (v : Queued g.row.M.Denot). slice_get v.packets i) c.self.view_is)
    ∙ nth_cut i q.entries.items q.octets.octets e long (search rules)))

pub returns-in-None : goal.returns-in-None
returns-in-None g c =
    let q = c.self.inside in
    let i = c.args.index in
    let long : length q.entries.items ≤ i = search rules in
    sym (ap (λ (p : Option (g.row.M.Denot × List ℕ)). option_map (λ p. p.0) p)
    (sym (ap (λ (v : Queued g.row.M.Denot). slice_get v.packets i) c.self.view_is)
    ∙ none_cut i q.entries.items q.octets.octets long))
