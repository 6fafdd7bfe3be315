use Rattle.std.proofs.Common.{List, Option, sym, ap, subst}
use Rattle.tcp_host.specs.declared.iss.Endpoints.{Endpoints}
use Rattle.tcp_host.specs.Table.{IsNowhere}
use Rattle.tcp_host.specs.Host.{Host}
use Rattle.tcp_host.proofs.HostLemmas.{still_nowhere}
use Rattle.tcp_host.proofs.host.TcpHost.vacate.Goals as goal

pub returns-clause-nowhere : goal.returns-clause-nowhere
returns-clause-nowhere c = λ e n.
    subst (λ (xs : List (Option Endpoints)). IsNowhere e xs) (sym c.remove.ensures)
    (still_nowhere e c.self.inside.table c.args.place
    (subst (λ (xs : List (Option Endpoints)). IsNowhere e xs) (sym (ap (λ (h : Host). h.ends) c.self.view_is)) n))
