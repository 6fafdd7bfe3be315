use Rattle.host_laws.proofs.Runs.FrameSizes.{run_frames_fit}
use Rattle.host_laws.proofs.laws.frames_of_runs_fit.Goals as goal

pub returns : goal.returns
returns c = run_frames_fit
