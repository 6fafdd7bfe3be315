use Rattle.std.proofs.Common.{rules, ◌≡◌, ◌<◌, ◌+◌, ℕ, length, take, min, suc, refl, sym, ap, ◌∙◌, arith}
use Rattle.std.proofs.lemmas.List.{take_min}
use Rattle.sockets.specs.Queue.{Queued, octets_in, total}
use Rattle.sockets.proofs.QueueLemmas.{octets_before, octets_in_cut, total_parts}
use Rattle.sockets.proofs.queue.Queue.octets_before.Goals as goal

pub loop-at-init : goal.loop-at-init
loop-at-init g c = refl

pub overflow_add-octets : goal.overflow_add-octets
overflow_add-octets g c =
    let q = c.self.inside in
    let es = q.entries.items in
    let e = c.index.result.now in
    let long : c.loop-at.at < length es = search rules in
    let parts = total_parts c.loop-at.at es e long (search rules) in
    let all = ap (λ (v : Queued g.row.M.Denot). octets_in v.packets) c.self.view_is in
    let whole = octets_in_cut es q.octets.octets c.self.invariant.0 in
    omega (arith, parts.1, c.loop-at.invariant, all, whole, c.payload_len-all.ensures, c.payload_len-all.type_inv, c.self.invariant.0)

pub loop-at-preserved : goal.loop-at-preserved
loop-at-preserved g c =
    let q = c.self.inside in
    let es = q.entries.items in
    let e = c.index.result.now in
    let i = c.loop-at.at in
    let long : i < length es = search rules in
    let parts = total_parts i es e long (search rules) in
    let next : i + 1 ≡ suc i = omega arith in
    let more : total (take (i + 1) es) ≡ total (take i es) + e.len = ap (λ (n : ℕ). total (take n es)) next ∙ parts.0 in
    omega (arith, more, c.loop-at.invariant)

pub returns : goal.returns
returns g c =
    let q = c.self.inside in
    let es = q.entries.items in
    let i = c.args.index in
    let until : c.loop-at.at ≡ min i (length es) = search rules in
    c.loop-at.invariant
    ∙ (ap (λ (n : ℕ). total (take n es)) until
    ∙ (ap total (take_min i es)
    ∙ (sym (octets_before i es q.octets.octets c.self.invariant.0)
    ∙ ap (λ (v : Queued g.row.M.Denot). octets_in (take i v.packets)) c.self.view_is)))
