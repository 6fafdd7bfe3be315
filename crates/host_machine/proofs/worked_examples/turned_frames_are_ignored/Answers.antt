use Rattle.host_machine.proofs.Examples.IgnoredFrames.{turned_ignored}
use Rattle.host_machine.proofs.worked_examples.turned_frames_are_ignored.Goals as goal

pub returns : goal.returns
returns c = turned_ignored
