use Rattle.std.proofs.Common.{◌≡◌, ◌<◌, ◌≤◌, length, refl, sym, ap, ◌∙◌, arith}
use Rattle.host_machine.specs.Context.Host.{Host}
use Rattle.host_machine.specs.Context.Settings.{after_address_change}
use Rattle.host_machine.specs.Interface.Step.{Set, NoRoom, NoOwn}
use Rattle.interface.proofs.SettingCalls.{kept, led}
use Rattle.interface.proofs.interface.Interface.set_ip_addrs.Goals as goal

pub returns-then-list-addr_room-clause-set : goal.returns-then-list-addr_room-clause-set
returns-then-list-addr_room-clause-set c = λ sockets H h.
    let room : c.addr_room.result ≡ H.addr_room = c.addr_room.ensures.value ∙ ap (λ (K : Host). K.addr_room) (sym h.same) in
    let many : c.addr_room.result < length c.args.list.now = omega arith in
    kept H h (NoRoom (rw room at many) refl refl)

pub returns-then-not-are_assignable-clause-set : goal.returns-then-not-are_assignable-clause-set
returns-then-not-are_assignable-clause-set c = λ sockets H h.
    let room : c.addr_room.result ≡ H.addr_room = c.addr_room.ensures.value ∙ ap (λ (K : Host). K.addr_room) (sym h.same) in
    let few : length c.args.list.now ≤ c.addr_room.result = omega arith in
    kept H h (NoOwn (rw room at few) (sym c.are_assignable.ensures ∙ c.if-not-are_assignable.true) refl refl)

pub returns-clause-set : goal.returns-clause-set
returns-clause-set c = λ sockets H h.
    let room : c.addr_room.result ≡ H.addr_room = c.addr_room.ensures.value ∙ ap (λ (K : Host). K.addr_room) (sym h.same) in
    let few : length c.args.list.now ≤ c.addr_room.result = omega arith in
    led c.args.self.now.context c.set_ip_addrs.new.context c.args.self.now.fragments sockets H h
    (λ K. after_address_change K c.args.list.now) (c.set_ip_addrs.ensures sockets) (λ K slots. refl)
    (Set (rw room at few) (sym c.are_assignable.ensures ∙ c.if-not-are_assignable.false) refl refl)

pub returns-clause-routes : goal.returns-clause-routes
returns-clause-routes c = λ sockets. (
  ap (λ (K : Host). K.routes) (c.set_ip_addrs.ensures sockets),
  ap (λ (K : Host). K.route_room) (c.set_ip_addrs.ensures sockets),
)
