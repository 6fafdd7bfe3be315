use Rattle.std.proofs.Common.{List, Option, ap, subst}
use Rattle.tcp_host.specs.declared.iss.Endpoints.{Endpoints}
use Rattle.tcp_host.specs.Table.{IsPlaceOf}
use Rattle.tcp_host.specs.Host.{Host}
use Rattle.tcp_host.specs.Reports.{AtPlace}
use Rattle.tcp_host.proofs.host.TcpHost.report.Goals as goal

pub returns-in-Some : goal.returns-in-Some
returns-in-Some c =
    AtPlace c.in-Some.place
    (subst (λ (xs : List (Option Endpoints)). IsPlaceOf c.args.endpoints.now xs c.in-Some.place) (ap (λ (h : Host). h.ends) c.self.view_is) c.in-Some.ensures.some)
    c.report_of.ensures
