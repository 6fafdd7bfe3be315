use Rattle.iface_tables.proofs.RouteLemmas.{replaces_first, replaces_none, replaces_nothing}
use Rattle.std.proofs.Common.{◌≤◌, ◌<◌, length, arith}
use Rattle.iface_tables.proofs.route.replace.Goals as goal

pub returns-in-Some-clause-replaces : goal.returns-in-Some-clause-replaces
returns-in-Some-clause-replaces c = λ is_kind at.
    rw (c.push.ensures.items, c.take_out.ensures.rest)
    (replaces_first c.args.room is_kind c.args.routes.now.items c.args.route c.in-Some.old c.args.place at c.in-Some.ensures.answer)

pub returns-then-len-room-clause-replaces : goal.returns-then-len-room-clause-replaces
returns-then-len-room-clause-replaces c = λ is_kind at.
    let full : c.args.room ≤ length c.take_out.new.routes.items = omega (arith, c.len.ensures.value, c.if-len-room.true) in
    rw c.take_out.ensures.rest
    (replaces_nothing c.args.room is_kind c.args.routes.now.items c.args.route c.args.place at c.in_default.ensures.answer
    (rw c.take_out.ensures.rest at full))

pub returns-clause-replaces : goal.returns-clause-replaces
returns-clause-replaces c = λ is_kind at.
    let free : length c.take_out.new.routes.items < c.args.room = omega (arith, c.len.ensures.value, c.if-len-room.false) in
    rw (c.push-2.ensures.items, c.take_out.ensures.rest)
    (replaces_none c.args.room is_kind c.args.routes.now.items c.args.route c.args.place at c.in_default.ensures.answer
    (rw c.take_out.ensures.rest at free))
