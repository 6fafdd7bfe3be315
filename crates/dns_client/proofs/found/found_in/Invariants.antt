use Rattle.std.proofs.Common.{◌≡◌}
use Rattle.dns_client.specs.Found.{found_from, nothing_at}
use Rattle.dns_client.proofs.found.found_in.Given as goal

abbrev pub invariant-loop-left : goal.invariant-loop-left
invariant-loop-left l =
    found_from l.left l.query_type l.octets l.at l.found ≡ found_from l.count l.query_type l.octets l.records (nothing_at l.name)

abbrev pub decreases-loop-left : goal.decreases-loop-left
decreases-loop-left l = l.left
