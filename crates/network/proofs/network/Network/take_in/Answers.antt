use Rattle.std.proofs.Common.{◌≡◌, ◌∙◌, refl, ap, subst, Some, map, arith}
use Rattle.std.specs.List.{slice_get}
use Rattle.std.specs.Vec.{with_item}
use Rattle.std.proofs.lemmas.Option.{slice_get_read}
use Rattle.host.specs.declared.link.Host.{Host as Linked}
use Rattle.host_machine.specs.declared.command.Command.TheVariants.{PollIngressSingle}
use Rattle.network.specs.Kept.{sent_of, wire_of}
use Rattle.network.specs.Network.{Acted, network_of}
use Rattle.network.proofs.NetworkSteps.{outside_came}
use Rattle.network.proofs.network.Network.take_in.Goals as goal

pub returns-clause-done : goal.returns-clause-done
returns-clause-done g c =
    let at : slice_get c.args.self.now.hosts.items c.args.to ≡ Some c.index_mut-host.result.now =
    slice_get_read c.args.self.now.hosts.items _ c.args.to c.index_mut-host.result.now refl (omega arith) c.index_mut-host.ensures.value in
    let same : wire_of c.reserve.new.self ≡ wire_of c.args.self.now.kept = ap (map sent_of) c.reserve.ensures.same in
    outside_came g.O.Owner.did (network_of c.args.self.now)
    (network_of (record { hosts = with_item c.args.self.now.hosts c.args.to c.act.new.host; kept = c.act.new.kept }))
    c.args.to c.args.timestamp c.args.frame.now c.act.result c.index_mut-host.result.now c.act.new.host at
    (subst (λ (h : Linked g.row.O.Denot). Acted g.O.Owner.did c.args.to (PollIngressSingle c.args.timestamp) c.act.result h c.act.new.host
    (wire_of c.args.self.now.kept) (wire_of c.act.new.kept)) c.in_ok-queue.ensures.ok
    (subst (λ w. Acted g.O.Owner.did c.args.to (PollIngressSingle c.args.timestamp) c.act.result c.queue.new.host c.act.new.host
    w (wire_of c.act.new.kept)) same c.act.ensures.acted)) refl (c.act.ensures.forgotten ∙ c.reserve.ensures.forgotten)
