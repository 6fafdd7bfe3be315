-- What the connections of the worked run do.
use Rattle.std.proofs.Common.{refl}
use Rattle.tcp_laws.specs.ServiceExample.{AConnectionServes}

pub a_connection_serves : AConnectionServes
a_connection_serves = record {
  next = refl;
  behind_a_gap = refl;
  leave = refl;
  above = refl;
  silent = refl;
  answered = refl;
  sent = refl;
  held_back = refl;
  end = refl;
  no_end = refl;
  answers = refl;
  not_yet = refl;
  established = refl;
}
