use Rattle.std.proofs.Common.{◌≡◌, ◌≤◌}
use Rattle.dns_client.specs.Names.{labels_of}
use Rattle.dns_client.proofs.name.Place.followed.Given as goal

abbrev pub invariant-loop-place : goal.invariant-loop-place
invariant-loop-place l = (labels_of l.octets l.place ≡ labels_of l.octets l.fn.self) × (l.place.steps ≤ l.fn.self.steps)

abbrev pub decreases-loop-place : goal.decreases-loop-place
decreases-loop-place l = l.place.steps
