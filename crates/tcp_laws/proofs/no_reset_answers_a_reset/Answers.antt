use Rattle.tcp_laws.proofs.Restraints.{no_reset_answers_a_reset}
use Rattle.tcp_laws.proofs.no_reset_answers_a_reset.Goals as goal

pub returns : goal.returns
returns c = no_reset_answers_a_reset
