use Rattle.std.proofs.Common.{◌<◌, List, Option, length, refl, sym, ap, subst, arith}
use Rattle.std.proofs.lemmas.List.{get_or_read}
use Rattle.tcp_host.specs.declared.iss.Endpoints.{Endpoints}
use Rattle.tcp_host.specs.Table.{IsNowhere}
use Rattle.tcp_host.specs.Host.{Host, no_listener}
use Rattle.tcp_host.proofs.host.TcpHost.count.Goals as goal

pub returns-clause-nowhere : goal.returns-clause-nowhere
returns-clause-nowhere c = λ e n.
    c.vacate_if.ensures.nowhere e (subst (λ (xs : List (Option Endpoints)). IsNowhere e xs) (sym (ap (λ (h : Host). h.ends) c.self.view_is)) n)

pub returns-clause-value : goal.returns-clause-value
returns-clause-value c =
    let i = c.self.inside in
    let v = c.self.view_is in
    let within : c.args.index < length i.listeners.items = grind (arith, c.requires, v) in
    let listener = get_or_read i.listeners.items _ _ within c.index_mut.ensures.value no_listener in
    rw (c.vacate_if.ensures.value, c.begin-oldest.ensures.evicted, c.begin-oldest.ensures.begun, listener, ← v) refl
