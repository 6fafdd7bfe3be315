use Rattle.iface_host.proofs.RefusalCalls.{hardware_why}
use Rattle.iface_host.proofs.RuleCalls.{followed, hardware_refused, stayed}
use Rattle.iface_host.proofs.host.IfaceHost.set_hardware_address.Goals as goal

pub returns-in-Ok-clause-set : goal.returns-in-Ok-clause-set
returns-in-Ok-clause-set c = followed c.args.self.now _ _ (rw (c.in-Ok.is, c.deref_mut.ensures.value) at c.set_hardware_addr.ensures)

pub returns-in-Err-WrongMedium-clause-refused : goal.returns-in-Err-WrongMedium-clause-refused
returns-in-Err-WrongMedium-clause-refused c =
    stayed c.args.self.now _ _ (hardware_refused _ _) (rw (c.in-Err-WrongMedium.is, c.deref_mut.ensures.value) at c.set_hardware_addr.ensures)

pub returns-in-Err-NotUnicast-clause-refused : goal.returns-in-Err-NotUnicast-clause-refused
returns-in-Err-NotUnicast-clause-refused c =
    stayed c.args.self.now _ _ (hardware_refused _ _) (rw (c.in-Err-NotUnicast.is, c.deref_mut.ensures.value) at c.set_hardware_addr.ensures)

pub returns-in-Ok-clause-why : goal.returns-in-Ok-clause-why
returns-in-Ok-clause-why c =
    let there = rw c.deref.ensures at c.stands_for_a_host.ensures in
    let went = rw c.deref_mut.ensures.value at c.set_hardware_addr.ensures in
    rw c.in-Ok.is at (hardware_why c.args.self.now c.set_hardware_addr.new.self c.args.address _ there went)

pub returns-in-Err-WrongMedium-clause-why : goal.returns-in-Err-WrongMedium-clause-why
returns-in-Err-WrongMedium-clause-why c =
    let there = rw c.deref.ensures at c.stands_for_a_host.ensures in
    let went = rw c.deref_mut.ensures.value at c.set_hardware_addr.ensures in
    rw (c.in-Err-WrongMedium.is, c.in-Err-WrongMedium.field-0-is) at (hardware_why c.args.self.now c.set_hardware_addr.new.self c.args.address _ there went)

pub returns-in-Err-NotUnicast-clause-why : goal.returns-in-Err-NotUnicast-clause-why
returns-in-Err-NotUnicast-clause-why c =
    let there = rw c.deref.ensures at c.stands_for_a_host.ensures in
    let went = rw c.deref_mut.ensures.value at c.set_hardware_addr.ensures in
    rw (c.in-Err-NotUnicast.is, c.in-Err-NotUnicast.field-0-is) at (hardware_why c.args.self.now c.set_hardware_addr.new.self c.args.address _ there went)
