use Rattle.iface_multicast.proofs.Records.{one_pushed, none_pushed}
use Rattle.iface_multicast.proofs.mld.push_all.Goals.{in-Ipv6, in_default}
use Rattle.iface_multicast.proofs.mld.push_all.Goals as goal

pub loop-group-preserved : goal.loop-group-preserved
loop-group-preserved c = elim c.match-group.branch [
  | in-Ipv6 w ↦ rw (w.records-is, w.count-is) (one_pushed c.args.groups.now c.loop-group.group-index c.loop-group.count _ w.in-Ipv6.address
      c.loop-group.records.items w.push_record.new.records.items c.loop-group-test.true w.in-Ipv6.is
      w.push_record.ensures.items w.push_record.ensures.len c.loop-group.invariant)
  | in_default w ↦ rw (w.records-is, w.count-is) (none_pushed c.args.groups.now c.loop-group.group-index c.loop-group.count _ w.in_default.field-0
      c.loop-group.records.items c.loop-group-test.true w.in_default.is c.loop-group.invariant)
]
