use Rattle.ip_address.proofs.Best.{best_is_there}
use Rattle.ip_address.proofs.address_selection.ipv6.a_best_source_is_there.Goals as goal

pub returns : goal.returns
returns c = best_is_there
