use Rattle.tcp_host.proofs.CookieExamples.{in_a_flood, not_answered}
use Rattle.tcp_host.proofs.unkept.cookies_in_a_flood.Goals as goal

pub returns-clause-flooded : goal.returns-clause-flooded
returns-clause-flooded c = in_a_flood

pub returns-clause-none : goal.returns-clause-none
returns-clause-none c = not_answered
