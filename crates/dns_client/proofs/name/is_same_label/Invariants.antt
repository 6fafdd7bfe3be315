use Rattle.std.proofs.Common.{◌≡◌, length}
use Rattle.dns_client.specs.Names.{is_same_label}
use Rattle.dns_client.proofs.name.is_same_label.Given as goal

abbrev pub invariant-loop-rest : goal.invariant-loop-rest
invariant-loop-rest l = is_same_label l.rest l.other_rest ≡ is_same_label l.label l.other

abbrev pub decreases-loop-rest : goal.decreases-loop-rest
decreases-loop-rest l = length l.rest
