use Rattle.std.proofs.Common.{rules, ◌≡◌, ◌<◌, ◌≤◌, ℕ, List, Some, length, take, drop, sym, ap, ◌∙◌, slice_get, arith}
use Rattle.sockets.specs.Queue.{Queued, octets_in, total}
use Rattle.sockets.proofs.QueueLemmas.{none_cut, nth_cut, octets_before, total_parts}
use Rattle.sockets.proofs.queue.Queue.get.Goals as goal

pub part-requires : goal.part-requires
part-requires g c =
    let q = c.self.inside in
    let es = q.entries.items in
    let i = c.args.index in
    let e = c.in-Some.entry.now in
    let long : i < length es = search rules in
    let before : c.octets_before-offset.result ≡ total (take i es) =
    c.octets_before-offset.ensures ∙ (sym (ap (λ (v : Queued g.row.M.Denot). octets_in (take i v.packets)) c.self.view_is)
    ∙ octets_before i es q.octets.octets c.self.invariant.0) in
    let parts = total_parts i es e long (search rules) in
    omega (arith, before, parts.1, c.self.invariant.0)

pub returns-in-Some : goal.returns-in-Some
returns-in-Some g c =
    let q = c.self.inside in
    let es = q.entries.items in
    let i = c.args.index in
    let e = c.in-Some.entry.now in
    let long : i < length es = search rules in
    let before : c.octets_before-offset.result ≡ total (take i es) =
    c.octets_before-offset.ensures ∙ (sym (ap (λ (v : Queued g.row.M.Denot). octets_in (take i v.packets)) c.self.view_is)
    ∙ octets_before i es q.octets.octets c.self.invariant.0) in
    ap (λ (xs : List ℕ). Some (e.meta, xs)) (c.part.ensures ∙ ap (λ (n : ℕ). take e.len (drop n q.octets.octets)) before)
    ∙ (sym (nth_cut i es q.octets.octets e long (search rules))
    ∙ ap (λ (v : Queued g.row.M.Denot). slice_get v.packets i) c.self.view_is)

pub returns-in-None : goal.returns-in-None
returns-in-None g c =
    let q = c.self.inside in
    let i = c.args.index in
    let long : length q.entries.items ≤ i = search rules in
    sym (sym (ap (λ (v : Queued g.row.M.Denot). slice_get v.packets i) c.self.view_is)
    ∙ none_cut i q.entries.items q.octets.octets long)
