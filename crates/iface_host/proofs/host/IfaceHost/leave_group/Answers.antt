use Rattle.iface_host.proofs.RefusalCalls.{left_why}
use Rattle.iface_host.proofs.RuleCalls.{followed, leave_refused, stayed}
use Rattle.iface_host.proofs.host.IfaceHost.leave_group.Goals as goal

pub returns-in-Ok-clause-left : goal.returns-in-Ok-clause-left
returns-in-Ok-clause-left c = followed c.args.self.now _ _ (rw (c.in-Ok.is, c.deref_mut.ensures.value) at c.leave_multicast_group.ensures)

pub returns-in-Err-clause-refused : goal.returns-in-Err-clause-refused
returns-in-Err-clause-refused c =
    stayed c.args.self.now _ _ (leave_refused c.args.group _) (rw (c.in-Err.is, c.deref_mut.ensures.value) at c.leave_multicast_group.ensures)

pub returns-in-Ok-clause-why : goal.returns-in-Ok-clause-why
returns-in-Ok-clause-why c =
    let there = rw c.deref.ensures at c.stands_for_a_host.ensures in
    let went = rw c.deref_mut.ensures.value at c.leave_multicast_group.ensures in
    rw c.in-Ok.is at (left_why c.args.self.now c.leave_multicast_group.new.self c.args.group _ there went)

pub returns-in-Err-clause-why : goal.returns-in-Err-clause-why
returns-in-Err-clause-why c =
    let there = rw c.deref.ensures at c.stands_for_a_host.ensures in
    let went = rw c.deref_mut.ensures.value at c.leave_multicast_group.ensures in
    rw c.in-Err.is at (left_why c.args.self.now c.leave_multicast_group.new.self c.args.group _ there went)
