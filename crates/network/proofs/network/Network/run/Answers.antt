use Rattle.std.proofs.Common.{◌≡◌, refl, ap, subst, Some, ◌∙◌, arith}
use Rattle.std.specs.Prelude.{map}
use Rattle.std.specs.List.{slice_get}
use Rattle.std.specs.Vec.{with_item}
use Rattle.std.proofs.lemmas.Option.{slice_get_read}
use Rattle.network.specs.Kept.{sent_of, wire_of}
use Rattle.network.specs.Network.{Acted, network_of}
use Rattle.network.proofs.NetworkSteps.{host_ran}
use Rattle.network.proofs.network.Network.run.Goals as goal

pub returns-clause-done : goal.returns-clause-done
returns-clause-done g c =
    let at : slice_get c.args.self.now.hosts.items c.args.i ≡ Some c.index_mut.result.now =
    slice_get_read c.args.self.now.hosts.items _ c.args.i c.index_mut.result.now refl (omega arith) c.index_mut.ensures.value in
    let same : wire_of c.reserve.new.self ≡ wire_of c.args.self.now.kept = ap (map sent_of) c.reserve.ensures.same in
    host_ran g.O.Owner.did (network_of c.args.self.now)
    (network_of (record { hosts = with_item c.args.self.now.hosts c.args.i c.act.new.host; kept = c.act.new.kept }))
    c.args.i c.args.command.now c.act.result c.index_mut.result.now c.act.new.host at
    (subst (λ w. Acted g.O.Owner.did c.args.i c.args.command.now c.act.result c.index_mut.result.now c.act.new.host w (wire_of c.act.new.kept))
    same c.act.ensures.acted) refl (c.act.ensures.forgotten ∙ c.reserve.ensures.forgotten)
