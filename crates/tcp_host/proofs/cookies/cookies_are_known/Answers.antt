use Rattle.tcp_host.proofs.CookieLemmas.{cookies_are_known, old_cookies_are_unknown}
use Rattle.tcp_host.proofs.cookies.cookies_are_known.Goals as goal

pub returns-clause-known : goal.returns-clause-known
returns-clause-known c = cookies_are_known

pub returns-clause-unknown : goal.returns-clause-unknown
returns-clause-unknown c = old_cookies_are_unknown
