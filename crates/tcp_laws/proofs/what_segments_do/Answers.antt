use Rattle.tcp_laws.proofs.SegmentsDo.{segments_do}
use Rattle.tcp_laws.proofs.what_segments_do.Goals as goal

pub returns : goal.returns
returns c = segments_do
