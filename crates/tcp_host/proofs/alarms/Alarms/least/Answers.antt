use Rattle.std.proofs.Common.{◌≡◌, ℕ, List, get_or, sym, subst, arith}
use Rattle.std.proofs.lemmas.List.{get_or_read}
use Rattle.tcp_host.specs.Alarms.{IsLeast}
use Rattle.tcp_host.proofs.AlarmLemmas.{least_is}
use Rattle.tcp_host.proofs.alarms.Alarms.least.Goals as goal

pub returns : goal.returns
returns c =
    let i = c.self.inside in
    let v = c.self.invariant in
    let l = least_is i.places i.nodes.items v.0 v.1 v.3 in
    let len = v.0 in
    let some = v.1 in
    let r : c.index.result.now ≡ get_or i.nodes.items 1 0 =
    get_or_read i.nodes.items _ _ (omega (arith, len, some, i.nodes.ok.0)) c.index.ensures 0 in
    subst (λ (x : ℕ). IsLeast c.args.self.now x) (sym r)
    (subst (λ (xs : List ℕ). IsLeast xs (get_or i.nodes.items 1 0)) c.self.view_is l)
