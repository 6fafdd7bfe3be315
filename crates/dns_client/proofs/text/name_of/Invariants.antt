use Rattle.std.proofs.Common.{◌≡◌, length}
use Rattle.std.specs.List.{slice_split}
use Rattle.dns_client.specs.Details.Text.{is_dot, name_by, name_in}
use Rattle.dns_client.proofs.text.name_of.Given as goal

abbrev pub invariant-loop-len : goal.invariant-loop-len
invariant-loop-len l = name_by l.name.items (slice_split is_dot l.rest) ≡ name_in l.text

abbrev pub decreases-loop-len : goal.decreases-loop-len
decreases-loop-len l = length l.rest
