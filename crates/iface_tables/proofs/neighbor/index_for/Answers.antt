use Rattle.std.proofs.Common.{arith}
use Rattle.iface_tables.proofs.NeighborLemmas.{place_there, place_earliest, place_after}
use Rattle.iface_tables.proofs.neighbor.index_for.Goals as goal

pub returns-then-place-len-clause-place : goal.returns-then-place-len-clause-place
returns-then-place-len-clause-place c =
    place_there _ c.args.entries.now.items c.args.address.now (c.args.address.now, c.args.neighbor.now) c.index_hinting-place.result
    c.requires.distinct c.index_hinting-place.ensures (omega (arith, c.len-len.ensures))

pub returns-then-len-room-clause-place : goal.returns-then-len-room-clause-place
returns-then-len-room-clause-place c =
    place_earliest _ c.args.entries.now.items c.args.address.now (c.args.address.now, c.args.neighbor.now) c.index_hinting-place.result
    c.earliest-place.result c.requires.distinct c.index_hinting-place.ensures (omega (arith, c.len-len.ensures))
    (omega (arith, c.len-len.ensures, c.room.ensures)) (rw c.as_slice.ensures at c.earliest-place.ensures)

pub returns-clause-place : goal.returns-clause-place
returns-clause-place c =
    rw c.push.ensures.items
    (place_after _ c.args.entries.now.items c.args.address.now (c.args.address.now, c.args.neighbor.now) c.index_hinting-place.result
    c.requires.distinct c.index_hinting-place.ensures (omega (arith, c.len-len.ensures)) (omega (arith, c.len-len.ensures, c.room.ensures)))
