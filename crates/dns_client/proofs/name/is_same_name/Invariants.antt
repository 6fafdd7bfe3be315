use Rattle.std.proofs.Common.{◌≡◌, false}
use Rattle.dns_client.specs.Names.{is_same, is_same_name, labels_of, has_pointer}
use Rattle.dns_client.proofs.name.is_same_name.Given as goal

abbrev pub invariant-loop-place : goal.invariant-loop-place
invariant-loop-place l =
    (is_same (labels_of l.octets l.place) (labels_of l.others l.other) ≡ is_same_name l.octets l.at l.others l.other_at)
    × (has_pointer l.octets l.place ≡ false) × (has_pointer l.others l.other ≡ false)

abbrev pub decreases-loop-place : goal.decreases-loop-place
decreases-loop-place l = l.place.steps
