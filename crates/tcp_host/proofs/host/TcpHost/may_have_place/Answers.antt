use Rattle.tcp_host.specs.Arrivals.{IsFree, IsHalfOpen}
use Rattle.tcp_host.proofs.host.TcpHost.may_have_place.Goals as goal

pub returns-in-Some-clause-has : goal.returns-in-Some-clause-has
returns-in-Some-clause-has c = λ is. IsFree c.in-Some._place c.in-Some.ensures.value

pub returns-in-Some-fullest-clause-has : goal.returns-in-Some-fullest-clause-has
returns-in-Some-fullest-clause-has c = λ is. IsHalfOpen c.in-Some-fullest._index c.in-Some-fullest.ensures
