use Rattle.std.proofs.Common.{◌≡◌, ◌+◌, ◌-◌, ◌∙◌, ℕ, List, get_or, drop, sym, ap, subst, arith}
use Rattle.std.proofs.lemmas.List.{get_or-drop}
use Rattle.tcp_host.specs.Alarms.{IsLeast}
use Rattle.tcp_host.proofs.AlarmLemmas.{least_is}
use Rattle.tcp_host.proofs.alarms.Alarms.first.Goals as goal

pub returns-clause-least : goal.returns-clause-least
returns-clause-least c =
    let i = c.self.inside in
    let v = c.self.invariant in
    let node = c.leaf_below.result in
    let back : i.places + (node - i.places) ≡ node = let f = c.leaf_below.ensures.from in omega (arith, f) in
    let same : get_or i.nodes.items node 0 ≡ get_or i.nodes.items 1 0 = grind (arith, c.leaf_below.ensures.least, c.deref.ensures.value) in
    let at : get_or (drop i.places i.nodes.items) (node - i.places) 0 ≡ get_or i.nodes.items 1 0 =
    get_or-drop i.places i.nodes.items (node - i.places) 0 ∙ ap (λ (k : ℕ). get_or i.nodes.items k 0) back ∙ same in
    subst (λ (xs : List ℕ). IsLeast xs (get_or xs (node - i.places) 0)) c.self.view_is
    (subst (λ (x : ℕ). IsLeast (drop i.places i.nodes.items) x) (sym at) (least_is i.places i.nodes.items v.0 v.1 v.3))
