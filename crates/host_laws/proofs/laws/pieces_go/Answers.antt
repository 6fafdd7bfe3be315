use Rattle.host_laws.proofs.Interface.DueWork.{pieces_go}
use Rattle.host_laws.proofs.laws.pieces_go.Goals as goal

pub returns : goal.returns
returns c = pieces_go
