use Rattle.host_machine.proofs.Receive.FewFragments.{few_kept}
use Rattle.host_laws.proofs.laws.fragments_leave_few_ranges.Goals as goal

pub returns : goal.returns
returns c = few_kept
