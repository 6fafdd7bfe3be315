use Rattle.std.proofs.Common.{◌≡◌, min, arith}
use Rattle.std.proofs.Math.Nat.{min-eq_left}
use Rattle.iface_host.proofs.host.make_fragment_room.Goals as goal

pub returns : goal.returns
returns c =
    let both : min c.args.fragmented c.args.fragmented ≡ c.args.fragmented = min-eq_left (omega arith) in
    rw both at (rw (c.in_ok-keys.ensures.exact, c.in_ok-slots.ensures.exact) at c.set_fragment_storage.ensures)
