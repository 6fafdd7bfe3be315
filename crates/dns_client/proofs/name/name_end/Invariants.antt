use Rattle.std.proofs.Common.{◌≡◌, ◌≤◌, length}
use Rattle.dns_client.specs.Names.{end_from, end_of}
use Rattle.dns_client.proofs.name.name_end.Given as goal

abbrev pub invariant-loop-place : goal.invariant-loop-place
invariant-loop-place l =
    (end_from l.place.steps l.octets l.place.at l.place.room ≡ end_of l.octets l.at) × (l.place.at ≤ length l.octets)

abbrev pub decreases-loop-place : goal.decreases-loop-place
decreases-loop-place l = l.place.steps
