use Rattle.std.proofs.Common.{◌≡◌, ◌<◌, List, ℕ, sym, ap, subst, arith}
use Rattle.std.proofs.lemmas.Bool.Decides.{nat_tests}
use Rattle.tcp_host.specs.Host.{Host, never}
use Rattle.tcp_host.proofs.NewsLemmas.{first_goes, marks}
use Rattle.tcp_host.proofs.host.TcpHost.next_changed.Goals as goal

pub loop-self-smaller : goal.loop-self-smaller
loop-self-smaller c =
    let i = c.self.inside in
    let there : c.least.result < never = grind (arith, nat_tests, c.loop-self-test.true) in
    let less = first_goes i.news c.least.result c.first-place.result c.least.ensures c.first-place.ensures.least there c.first-place.ensures.within in
    let goes : marks c.set.new.self < marks i.news = subst (λ (xs : List ℕ). marks xs < marks i.news) (sym c.set.ensures) less in
    subst (λ (h : Host). marks c.set.new.self < marks h.news) c.self.view_is goes
