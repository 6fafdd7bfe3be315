-- What segments do to a connection of the worked run.
use Rattle.std.proofs.Common.{refl}
use Rattle.tcp_laws.specs.RestraintExample.{SegmentsDo}

pub segments_do : SegmentsDo
segments_do = record {
  other_reset = refl;
  far_reset = refl;
  beyond = refl;
  before = refl;
  next_reset = refl;
  next_octets = refl;
}
