use Rattle.host_laws.proofs.Runs.FragmentArrivals.{run_arrivals}
use Rattle.host_laws.proofs.laws.fragments_arrive_in_frames.Goals as goal

pub returns : goal.returns
returns c = λ first last places run. run_arrivals run
