use Rattle.std.proofs.Common.{◌≡◌, ◌≤◌}
use Rattle.std.specs.Prelude.{is_some}
use Rattle.fragmentation.specs.Assembly.{with_keys}
use Rattle.fragmentation.specs.Details.Holders.{holder_at, count_below}
use Rattle.fragmentation.proofs.reassembly.taken_among.Given as goal

abbrev pub invariant-loop-i : goal.invariant-loop-i
invariant-loop-i g l =
    (l.count ≡ count_below (λ i. is_some (holder_at i (with_keys l.keys l.assemblers))) l.i) × (l.count ≤ l.i)
