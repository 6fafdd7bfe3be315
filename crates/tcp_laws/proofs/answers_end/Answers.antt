use Rattle.tcp_laws.proofs.AnswersEnd as law
use Rattle.tcp_laws.proofs.answers_end.Goals as goal

pub returns-clause-acknowledgements : goal.returns-clause-acknowledgements
returns-clause-acknowledgements c = law.answers_end

pub returns-clause-syns : goal.returns-clause-syns
returns-clause-syns c = law.no_syn_answers_a_syn_ack

pub returns-clause-resets : goal.returns-clause-resets
returns-clause-resets c = law.nothing_answers_a_reset
