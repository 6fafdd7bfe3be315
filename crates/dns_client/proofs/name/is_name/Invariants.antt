use Rattle.std.proofs.Common.{◌≡◌, false}
use Rattle.dns_client.specs.Names.{is_some, is_name, labels_of, has_pointer}
use Rattle.dns_client.proofs.name.is_name.Given as goal

abbrev pub invariant-loop-place : goal.invariant-loop-place
invariant-loop-place l =
    (is_some (labels_of l.octets l.place) ≡ is_name l.octets l.at) × (has_pointer l.octets l.place ≡ false)

abbrev pub decreases-loop-place : goal.decreases-loop-place
decreases-loop-place l = l.place.steps
