use Rattle.iface_host.proofs.RefusalCalls.{joined_why}
use Rattle.iface_host.proofs.RuleCalls.{followed, join_refused, stayed}
use Rattle.iface_host.proofs.host.IfaceHost.join_group.Goals as goal

pub returns-in-Ok-clause-joined : goal.returns-in-Ok-clause-joined
returns-in-Ok-clause-joined c = followed c.args.self.now _ _ (rw (c.in-Ok.is, c.deref_mut.ensures.value) at c.join_multicast_group.ensures)

pub returns-in-Err-Unaddressable-clause-refused : goal.returns-in-Err-Unaddressable-clause-refused
returns-in-Err-Unaddressable-clause-refused c =
    stayed c.args.self.now _ _ (join_refused c.args.group _) (rw (c.in-Err-Unaddressable.is, c.deref_mut.ensures.value) at c.join_multicast_group.ensures)

pub returns-in-Err-GroupTableFull-clause-refused : goal.returns-in-Err-GroupTableFull-clause-refused
returns-in-Err-GroupTableFull-clause-refused c =
    stayed c.args.self.now _ _ (join_refused c.args.group _) (rw (c.in-Err-GroupTableFull.is, c.deref_mut.ensures.value) at c.join_multicast_group.ensures)

pub returns-in-Ok-clause-why : goal.returns-in-Ok-clause-why
returns-in-Ok-clause-why c =
    let there = rw c.deref.ensures at c.stands_for_a_host.ensures in
    let went = rw c.deref_mut.ensures.value at c.join_multicast_group.ensures in
    rw c.in-Ok.is at (joined_why c.args.self.now c.join_multicast_group.new.self c.args.group _ there went)

pub returns-in-Err-Unaddressable-clause-why : goal.returns-in-Err-Unaddressable-clause-why
returns-in-Err-Unaddressable-clause-why c =
    let there = rw c.deref.ensures at c.stands_for_a_host.ensures in
    let went = rw c.deref_mut.ensures.value at c.join_multicast_group.ensures in
    rw (c.in-Err-Unaddressable.is, c.in-Err-Unaddressable.field-0-is) at
    (joined_why c.args.self.now c.join_multicast_group.new.self c.args.group _ there went)

pub returns-in-Err-GroupTableFull-clause-why : goal.returns-in-Err-GroupTableFull-clause-why
returns-in-Err-GroupTableFull-clause-why c =
    let there = rw c.deref.ensures at c.stands_for_a_host.ensures in
    let went = rw c.deref_mut.ensures.value at c.join_multicast_group.ensures in
    rw (c.in-Err-GroupTableFull.is, c.in-Err-GroupTableFull.field-0-is) at
    (joined_why c.args.self.now c.join_multicast_group.new.self c.args.group _ there went)
