use Rattle.host_laws.proofs.NetworkOrigin.{runs_get_what_some_sent}
use Rattle.host_laws.proofs.datagrams.runs_get_what_some_sent.Goals as goal

pub returns : goal.returns
returns c = λ hosts runs b b' qs r real may sent. runs_get_what_some_sent hosts runs b b' qs r real may sent
