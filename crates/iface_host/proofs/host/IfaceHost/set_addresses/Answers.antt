use Rattle.std.proofs.Common.{◌<◌, ◌≤◌, length, arith}
use Rattle.host_machine.specs.Context.Host.{no_sockets}
use Rattle.iface_host.proofs.RefusalCalls.{addresses_full, addresses_told, list_why}
use Rattle.iface_host.proofs.RuleCalls.{addresses_refused, followed, stayed}
use Rattle.iface_host.proofs.host.IfaceHost.set_addresses.Goals as goal

pub returns-then-addresses-addr_room-clause-why : goal.returns-then-addresses-addr_room-clause-why
returns-then-addresses-addr_room-clause-why c =
    let room = rw c.deref.ensures at (c.addr_room.ensures.value no_sockets) in
    let more : c.addr_room.result < length c.args.addresses.now = omega arith in
    addresses_full c.args.self.now c.args.addresses.now c.addr_room.result room more

pub put_addresses-requires : goal.put_addresses-requires
put_addresses-requires c =
    let few : length c.args.addresses.now ≤ c.addr_room.result = omega arith in
    rw (c.addr_room.ensures.value no_sockets, c.deref.ensures, ← c.deref_mut.ensures.value) at few

pub returns-in-Ok-clause-set : goal.returns-in-Ok-clause-set
returns-in-Ok-clause-set c = followed c.args.self.now _ _ (rw (c.in-Ok.is, c.deref_mut.ensures.value) at c.put_addresses.ensures.set)

pub returns-in-Err-clause-refused : goal.returns-in-Err-clause-refused
returns-in-Err-clause-refused c =
    stayed c.args.self.now _ _ (addresses_refused c.args.addresses.now _) (rw (c.in-Err.is, c.deref_mut.ensures.value) at c.put_addresses.ensures.set)

pub returns-in-Ok-clause-why : goal.returns-in-Ok-clause-why
returns-in-Ok-clause-why c =
    let there = rw c.deref-2.ensures at c.stands_for_a_host.ensures in
    let went = rw c.deref_mut.ensures.value at c.put_addresses.ensures.set in
    let few : length c.args.addresses.now ≤ c.addr_room.result = omega arith in
    let room = rw c.deref.ensures at (c.addr_room.ensures.value no_sockets) in
    rw c.in-Ok.is at (addresses_told c.args.self.now c.args.addresses.now c.addr_room.result _ room few
    (list_why c.args.self.now c.put_addresses.new.interface c.args.addresses.now _ there went))

pub returns-in-Err-clause-why : goal.returns-in-Err-clause-why
returns-in-Err-clause-why c =
    let there = rw c.deref-2.ensures at c.stands_for_a_host.ensures in
    let went = rw c.deref_mut.ensures.value at c.put_addresses.ensures.set in
    let few : length c.args.addresses.now ≤ c.addr_room.result = omega arith in
    let room = rw c.deref.ensures at (c.addr_room.ensures.value no_sockets) in
    rw c.in-Err.is at (addresses_told c.args.self.now c.args.addresses.now c.addr_room.result _ room few
    (list_why c.args.self.now c.put_addresses.new.interface c.args.addresses.now _ there went))
