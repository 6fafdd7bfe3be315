use Rattle.std.proofs.Common.{◌≡◌, ◌<◌, ◌≤◌, List, [], ◌∷◌, ◌++◌, length, ap, rules, ◌∙◌, arith}
use Rattle.ip_address.specs.declared.cidr.IpCidr.{IpCidr}
use Rattle.host_machine.specs.Context.Host.{no_sockets}
use Rattle.iface_host.proofs.RefusalCalls.{address_full, address_told, fits_one_more, list_why}
use Rattle.iface_host.proofs.RuleCalls.{addresses_refused, stayed, updated}
use Rattle.iface_host.proofs.host.IfaceHost.add_address.Goals as goal

pub returns-then-own-room-clause-why : goal.returns-then-own-room-clause-why
returns-then-own-room-clause-why c =
    let own = rw c.deref.ensures at (c.ip_addrs-own.ensures.value no_sockets) in
    let room = rw c.deref-2.ensures at (c.addr_room-room.ensures.value no_sockets) in
    let most : c.addr_room-room.result ≤ length c.ip_addrs-own.result.now = omega arith in
    address_full c.args.self.now c.ip_addrs-own.result.now c.args.cidr c.addr_room-room.result own room most

pub put_addresses-requires : goal.put_addresses-requires
put_addresses-requires c =
    let less : length c.ip_addrs-own.result.now < c.addr_room-room.result = omega arith in
    let pushed : c.push.new.self.items ≡ c.ip_addrs-own.result.now ++ c.args.cidr ∷ [] = search rules in
    let few : length c.as_slice.result.now ≤ c.addr_room-room.result =
    fits_one_more c.ip_addrs-own.result.now c.as_slice.result.now c.args.cidr c.addr_room-room.result (c.as_slice.ensures.value ∙ pushed) less in
    rw (c.addr_room-room.ensures.value no_sockets, c.deref-2.ensures, ← c.deref_mut.ensures.value) at few

pub returns-in-Ok-clause-added : goal.returns-in-Ok-clause-added
returns-in-Ok-clause-added c =
    let after : List IpCidr → List IpCidr = λ cidrs. cidrs ++ c.args.cidr ∷ [] in
    let pushed : c.push.new.self.items ≡ c.ip_addrs-own.result.now ++ c.args.cidr ∷ [] = search rules in
    updated c.args.self.now _ after c.push.new.self.items (λ sockets. pushed ∙ ap after (rw c.deref.ensures at (c.ip_addrs-own.ensures.value sockets)))
    (rw (c.in-Ok.is, c.deref_mut.ensures.value, c.as_slice.ensures.value) at c.put_addresses.ensures.set)

pub returns-in-Err-clause-refused : goal.returns-in-Err-clause-refused
returns-in-Err-clause-refused c =
    stayed c.args.self.now _ _ (addresses_refused c.push.new.self.items _)
    (rw (c.in-Err.is, c.deref_mut.ensures.value, c.as_slice.ensures.value) at c.put_addresses.ensures.set)

pub returns-in-Ok-clause-why : goal.returns-in-Ok-clause-why
returns-in-Ok-clause-why c =
    let there = rw c.deref-3.ensures at c.stands_for_a_host.ensures in
    let went = rw (c.deref_mut.ensures.value, c.as_slice.ensures.value) at c.put_addresses.ensures.set in
    let less : length c.ip_addrs-own.result.now < c.addr_room-room.result = omega arith in
    let pushed : c.push.new.self.items ≡ c.ip_addrs-own.result.now ++ c.args.cidr ∷ [] = search rules in
    let own = rw c.deref.ensures at (c.ip_addrs-own.ensures.value no_sockets) in
    let room = rw c.deref-2.ensures at (c.addr_room-room.ensures.value no_sockets) in
    rw c.in-Ok.is at (address_told c.args.self.now c.ip_addrs-own.result.now c.push.new.self.items c.args.cidr c.addr_room-room.result _ own room less pushed
    (list_why c.args.self.now c.put_addresses.new.interface c.push.new.self.items _ there went))

pub returns-in-Err-clause-why : goal.returns-in-Err-clause-why
returns-in-Err-clause-why c =
    let there = rw c.deref-3.ensures at c.stands_for_a_host.ensures in
    let went = rw (c.deref_mut.ensures.value, c.as_slice.ensures.value) at c.put_addresses.ensures.set in
    let less : length c.ip_addrs-own.result.now < c.addr_room-room.result = omega arith in
    let pushed : c.push.new.self.items ≡ c.ip_addrs-own.result.now ++ c.args.cidr ∷ [] = search rules in
    let own = rw c.deref.ensures at (c.ip_addrs-own.ensures.value no_sockets) in
    let room = rw c.deref-2.ensures at (c.addr_room-room.ensures.value no_sockets) in
    rw c.in-Err.is at (address_told c.args.self.now c.ip_addrs-own.result.now c.push.new.self.items c.args.cidr c.addr_room-room.result _ own room less pushed
    (list_why c.args.self.now c.put_addresses.new.interface c.push.new.self.items _ there went))
