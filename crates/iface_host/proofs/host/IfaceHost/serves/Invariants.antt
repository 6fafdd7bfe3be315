use Rattle.std.proofs.Common.{◌≡◌}
use Rattle.iface_host.specs.Fragments.{holds_key, some_below}
use Rattle.iface_host.proofs.host.IfaceHost.serves.Given as goal

abbrev pub invariant-loop-index : goal.invariant-loop-index
invariant-loop-index l = l.served ≡ some_below (holds_key l.key l.self) l.index
