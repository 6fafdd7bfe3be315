use Rattle.std.proofs.Common.{◌≡◌, ◌≤◌}
use Rattle.iface_host.specs.Fragments.{tally_of}
use Rattle.iface_host.proofs.host.IfaceHost.tally.Given as goal

abbrev pub invariant-loop-index : goal.invariant-loop-index
invariant-loop-index l = (l.tally ≡ tally_of l.now l.self l.index) × (l.tally.known ≤ l.index) × (l.tally.strangers ≤ l.index)
