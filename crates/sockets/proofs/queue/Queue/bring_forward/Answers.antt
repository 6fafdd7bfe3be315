use Rattle.std.proofs.Common.{rules, ◌≡◌, ◌<◌, ◌≤◌, ◌++◌, ◌∷◌, ℕ, List, length, take, drop, suc, sym, ap, ◌∙◌, arith}
use Rattle.sockets.specs.Queue.{Held, Queued, brought_forward, cut, octets_forward, octets_in, total}
use Rattle.sockets.specs.declared.queue.Entry.{Entry}
use Rattle.sockets.proofs.QueueLemmas.{cut_forward, length_forward, octets_before, stays_cut, total_forward, total_parts}
use Rattle.sockets.proofs.queue.Queue.bring_forward.Goals as goal

pub returns-in_default : goal.returns-in_default
returns-in_default g c =
    let q = c.self.inside in
    let bs = q.octets.octets in
    let i = c.args.index in
    let long : length q.entries.items ≤ i = search rules in
    let items : c.remove.new.self.items ≡ q.entries.items = search rules in
    let packets = ap (λ (es : List (Entry g.row.M.Denot)). cut es bs) items ∙ sym (stays_cut i q.entries.items bs long) in
    ap (λ (ps : List (g.row.M.Denot × List ℕ)). record { packets = ps; most = q.most; limit = q.octets.limit }) packets
    ∙ ap (λ (v : Queued g.row.M.Denot). record v { packets = brought_forward i v.packets }) c.self.view_is

pub bring_forward-requires : goal.bring_forward-requires
bring_forward-requires g c =
    let q = c.self.inside in
    let es = q.entries.items in
    let i = c.args.index in
    let e = c.in-Some.entry in
    let long : i < length es = search rules in
    let before : c.octets_before-offset.result ≡ total (take i es) =
    c.octets_before-offset.ensures ∙ (sym (ap (λ (v : Queued g.row.M.Denot). octets_in (take i v.packets)) c.self.view_is)
    ∙ octets_before i es q.octets.octets c.self.invariant.0) in
    let parts = total_parts i es e long c.in-Some.ensures.value in
    omega (arith, before, parts.1, c.self.invariant.0)

pub invariant_of-self : goal.invariant_of-self
invariant_of-self g c =
    let q = c.self.inside in
    let es = q.entries.items in
    let i = c.args.index in
    let e = c.in-Some.entry in
    let long : i < length es = search rules in
    let before : c.octets_before-offset.result ≡ total (take i es) =
    c.octets_before-offset.ensures ∙ (sym (ap (λ (v : Queued g.row.M.Denot). octets_in (take i v.packets)) c.self.view_is)
    ∙ octets_before i es q.octets.octets c.self.invariant.0) in
    let parts = total_parts i es e long c.in-Some.ensures.value in
    let counted : total c.push_front_reserved.new.self.items ≡ total es =
    ap total (c.push_front_reserved.ensures.items ∙ ap (λ (xs : List (Entry g.row.M.Denot)). e ∷ xs) c.in-Some.ensures.items)
    ∙ total_forward i es e long c.in-Some.ensures.value in
    let held : length c.bring_forward.new.self.octets ≡ length q.octets.octets =
    ap (λ (h : Held). length h.octets) c.bring_forward.ensures
    ∙ length_forward c.octets_before-offset.result e.len q.octets.octets (omega (arith, before, parts.1, c.self.invariant.0)) in (
      omega (arith, counted, held, c.self.invariant.0),
      search rules,
      search rules,
    )

pub returns-in-Some : goal.returns-in-Some
returns-in-Some g c =
    let q = c.self.inside in
    let es = q.entries.items in
    let bs = q.octets.octets in
    let i = c.args.index in
    let e = c.in-Some.entry in
    let long : i < length es = search rules in
    let before : c.octets_before-offset.result ≡ total (take i es) =
    c.octets_before-offset.ensures ∙ (sym (ap (λ (v : Queued g.row.M.Denot). octets_in (take i v.packets)) c.self.view_is)
    ∙ octets_before i es bs c.self.invariant.0) in
    let items : c.push_front_reserved.new.self.items ≡ e ∷ (take i es ++ drop (suc i) es) =
    c.push_front_reserved.ensures.items ∙ ap (λ (xs : List (Entry g.row.M.Denot)). e ∷ xs) c.in-Some.ensures.items in
    let packets =
    ap (λ (xs : List (Entry g.row.M.Denot)). cut xs c.bring_forward.new.self.octets) items
    ∙ (ap (λ (h : Held). cut (e ∷ (take i es ++ drop (suc i) es)) h.octets) c.bring_forward.ensures
    ∙ (ap (λ (n : ℕ). cut (e ∷ (take i es ++ drop (suc i) es)) (octets_forward n e.len bs)) before
    ∙ cut_forward i es bs e long c.in-Some.ensures.value c.self.invariant.0)) in
    ap (λ (ps : List (g.row.M.Denot × List ℕ)). record { packets = ps; most = q.most; limit = c.bring_forward.new.self.limit }) packets
    ∙ (ap (λ (h : Held). record { packets = brought_forward i (cut es bs); most = q.most; limit = h.limit }) c.bring_forward.ensures
    ∙ ap (λ (v : Queued g.row.M.Denot). record v { packets = brought_forward i v.packets }) c.self.view_is)
