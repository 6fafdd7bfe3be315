use Rattle.host_laws.proofs.Discovery.LearntNeighbors.{neighbors_came}
use Rattle.host_laws.proofs.restraint.neighbors_come_from_frames.Goals as goal

pub returns : goal.returns
returns c = neighbors_came
