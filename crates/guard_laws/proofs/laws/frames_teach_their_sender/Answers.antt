use Rattle.guard_laws.proofs.LearningLemmas as lemma
use Rattle.guard_laws.proofs.laws.frames_teach_their_sender.Goals as goal

pub returns : goal.returns
returns c = lemma.frames_teach_their_sender
