use Rattle.std.proofs.Common.{◌<◌, ◌≤◌, length, ap, ◌∙◌, arith}
use Rattle.host_machine.specs.Context.Host.{no_sockets}
use Rattle.iface_host.specs.Leased.{addresses_with}
use Rattle.iface_host.proofs.LeasedCalls.{few_enough, fits_addresses, kept_same, leased, leased_why, many_addresses, many_routes, room_told, too_many}
use Rattle.iface_host.proofs.RuleCalls.{stayed}
use Rattle.iface_host.proofs.host.IfaceHost.replace_leased.Goals as goal

pub addresses_with-requires-clause-few : goal.addresses_with-requires-clause-few
addresses_with-requires-clause-few c =
    let a = rw c.deref-2.ensures at (c.ip_addrs.ensures.fits no_sockets) in
    let b = rw c.deref.ensures at (c.addr_room-room.ensures.value no_sockets) in
    omega (arith, a, b)

pub returns-in_default-clause-why : goal.returns-in_default-clause-why
returns-in_default-clause-why c =
    let own = rw c.deref-2.ensures at (c.ip_addrs.ensures.value no_sockets) in
    let room = rw c.deref.ensures at (c.addr_room-room.ensures.value no_sockets) in
    many_addresses c.args.self.now c.args.old.now c.args.new.now c.ip_addrs.result.now c.addr_room-room.result own room c.in_default.ensures.full

pub returns-then-count_with-room-clause-why : goal.returns-then-count_with-room-clause-why
returns-then-count_with-room-clause-why c =
    let own = rw c.deref-2.ensures at (c.ip_addrs.ensures.value no_sockets) in
    let room = rw c.deref.ensures at (c.addr_room-room.ensures.value no_sockets) in
    let routes = c.as_slice.ensures.value ∙ rw c.deref-3.ensures at (c.routes-routes.ensures.items no_sockets) in
    let places = c.room.ensures.value ∙ rw c.deref-3.ensures at (c.routes-routes.ensures.room no_sockets) in
    let more : c.room.result < c.count_with.result = omega arith in
    many_routes c.args.self.now c.args.old.now c.args.new.now c.ip_addrs.result.now c.addr_room-room.result own room c.in-Some.ensures.full
    (too_many c.args.self.now c.args.old.now c.args.new.now c.as_slice.result.now c.count_with.result c.room.result routes places c.count_with.ensures more)

pub put_leased-requires-clause-addresses : goal.put_leased-requires-clause-addresses
put_leased-requires-clause-addresses c =
    let few : length c.as_slice-2.result.now ≤ c.addr_room-room.result =
    fits_addresses c.args.old.now c.args.new.now c.ip_addrs.result.now c.as_slice-2.result.now c.addr_room-room.result
    (c.as_slice-2.ensures.value ∙ c.in-Some.ensures.list) c.in-Some.ensures.full in
    rw (c.addr_room-room.ensures.value no_sockets, c.deref.ensures, ← c.deref_mut.ensures.value) at few

pub put_leased-requires-clause-routes : goal.put_leased-requires-clause-routes
put_leased-requires-clause-routes c =
    let few : c.count_with.result ≤ c.room.result = omega arith in
    rw (
      c.count_with.ensures,
      c.as_slice.ensures.value,
      c.routes-routes.ensures.items no_sockets,
      c.room.ensures.value,
      c.routes-routes.ensures.room no_sockets,
      c.deref-3.ensures,
      ← c.deref_mut.ensures.value,
    ) at few

pub returns-in-Ok-clause-replaced : goal.returns-in-Ok-clause-replaced
returns-in-Ok-clause-replaced c =
    leased c.args.self.now _ c.args.old.now c.args.new.now c.in-Some.addresses.items
    (λ sockets. c.in-Some.ensures.list ∙ ap (addresses_with c.args.old.now c.args.new.now) (rw c.deref-2.ensures at (c.ip_addrs.ensures.value sockets)))
    (rw (c.in-Ok.is, c.deref_mut.ensures.value, c.as_slice-2.ensures.value) at c.put_leased.ensures)

pub returns-in-Err-clause-refused : goal.returns-in-Err-clause-refused
returns-in-Err-clause-refused c =
    stayed c.args.self.now _ _ (kept_same c.in-Some.addresses.items c.args.old.now c.args.new.now _)
    (rw (c.in-Err.is, c.deref_mut.ensures.value, c.as_slice-2.ensures.value) at c.put_leased.ensures)

pub returns-in-Ok-clause-why : goal.returns-in-Ok-clause-why
returns-in-Ok-clause-why c =
    let stands = rw c.deref-4.ensures at c.stands_for_a_host.ensures in
    let went = rw (c.deref_mut.ensures.value, c.as_slice-2.ensures.value) at c.put_leased.ensures in
    let few : c.count_with.result ≤ c.room.result = omega arith in
    let own = rw c.deref-2.ensures at (c.ip_addrs.ensures.value no_sockets) in
    let room = rw c.deref.ensures at (c.addr_room-room.ensures.value no_sockets) in
    let routes = c.as_slice.ensures.value ∙ rw c.deref-3.ensures at (c.routes-routes.ensures.items no_sockets) in
    let places = c.room.ensures.value ∙ rw c.deref-3.ensures at (c.routes-routes.ensures.room no_sockets) in
    let fit = few_enough c.args.self.now c.args.old.now c.args.new.now c.as_slice.result.now c.count_with.result c.room.result routes places
    c.count_with.ensures few in
    rw c.in-Ok.is at (room_told c.args.self.now c.args.old.now c.args.new.now c.ip_addrs.result.now c.in-Some.addresses.items c.addr_room-room.result _
    own room c.in-Some.ensures.full fit c.in-Some.ensures.list
    (leased_why c.args.self.now c.put_leased.new.interface c.in-Some.addresses.items c.args.old.now c.args.new.now _ stands went))

pub returns-in-Err-clause-why : goal.returns-in-Err-clause-why
returns-in-Err-clause-why c =
    let stands = rw c.deref-4.ensures at c.stands_for_a_host.ensures in
    let went = rw (c.deref_mut.ensures.value, c.as_slice-2.ensures.value) at c.put_leased.ensures in
    let few : c.count_with.result ≤ c.room.result = omega arith in
    let own = rw c.deref-2.ensures at (c.ip_addrs.ensures.value no_sockets) in
    let room = rw c.deref.ensures at (c.addr_room-room.ensures.value no_sockets) in
    let routes = c.as_slice.ensures.value ∙ rw c.deref-3.ensures at (c.routes-routes.ensures.items no_sockets) in
    let places = c.room.ensures.value ∙ rw c.deref-3.ensures at (c.routes-routes.ensures.room no_sockets) in
    let fit = few_enough c.args.self.now c.args.old.now c.args.new.now c.as_slice.result.now c.count_with.result c.room.result routes places
    c.count_with.ensures few in
    rw c.in-Err.is at (room_told c.args.self.now c.args.old.now c.args.new.now c.ip_addrs.result.now c.in-Some.addresses.items c.addr_room-room.result _
    own room c.in-Some.ensures.full fit c.in-Some.ensures.list
    (leased_why c.args.self.now c.put_leased.new.interface c.in-Some.addresses.items c.args.old.now c.args.new.now _ stands went))
