use Rattle.iface_tables.proofs.neighbor.hinted.Given as goal

abbrev pub invariant-loop-hint : goal.invariant-loop-hint
invariant-loop-hint l = Unit {0}
