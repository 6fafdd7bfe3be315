use Rattle.std.proofs.Common.{List, Option, sym, ap, subst}
use Rattle.tcp_host.specs.declared.iss.Endpoints.{Endpoints}
use Rattle.tcp_host.specs.Table.{IsNowhere}
use Rattle.tcp_host.specs.Host.{Host}
use Rattle.tcp_host.proofs.HostLemmas.{then_nowhere}
use Rattle.tcp_host.proofs.host.TcpHost.reopen.Goals as goal

pub begin_at-requires-clause-new : goal.begin_at-requires-clause-new
begin_at-requires-clause-new c =
    subst (λ (xs : List (Option Endpoints)). IsNowhere c.args.endpoints.now xs) (sym (ap (λ (h : Host). h.ends) c.vacate.ensures.value))
    (then_nowhere c.args.endpoints.now c.args.self.now.ends c.args.place c.requires.at c.requires.distinct)
