use Rattle.iface_multicast.proofs.Records.{Pushed}
use Rattle.iface_multicast.proofs.mld.push_all.Given as goal

abbrev pub invariant-loop-group : goal.invariant-loop-group
invariant-loop-group l = Pushed l.groups l.group-index l.records.items l.count
