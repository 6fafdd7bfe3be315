use Rattle.host_laws.proofs.DatagramOrigin.{runs_get_what_was_sent}
use Rattle.host_laws.proofs.datagrams.runs_get_what_was_sent.Goals as goal

pub returns : goal.returns
returns c = λ a a' b b' ps qs ra rb regular real medium nobody were. runs_get_what_was_sent a a' b b' ps qs ra rb regular real medium nobody were
