use Rattle.host_laws.proofs.Runs.TimelyArrivals.{pieces_in_time}
use Rattle.host_laws.proofs.laws.pieces_arrive_in_time.Goals as goal

pub returns : goal.returns
returns c = pieces_in_time
