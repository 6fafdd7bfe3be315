use Rattle.std.proofs.Common.{◌≡◌, ◌<◌, refl, Some, length, arith}
use Rattle.std.specs.List.{slice_get}
use Rattle.std.proofs.lemmas.Option.{slice_get_read, slice_get_within}
use Rattle.network.proofs.NetworkSteps.{one_more}
use Rattle.network.proofs.network.Network.are_regular.Goals as goal

pub loop-i-preserved : goal.loop-i-preserved
loop-i-preserved g c =
    let at : slice_get c.args.self.now.hosts.items c.loop-i.i ≡ Some c.index.result.now =
    slice_get_read c.args.self.now.hosts.items _ c.loop-i.i c.index.result.now refl (omega arith) c.index.ensures in
    one_more c.args.self.now.hosts.items c.loop-i.i c.index.result.now at
    (λ H stands. c.is_on_its_medium.ensures c.index.result.now.sockets H stands) c.loop-i.invariant

pub returns : goal.returns
returns g c = λ i h H at stands.
    let within : i < length c.args.self.now.hosts.items = slice_get_within c.args.self.now.hosts.items i h at in
    c.loop-i.invariant i h H (omega arith) at stands
