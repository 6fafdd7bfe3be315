use Rattle.std.proofs.Common.{◌≡◌, true, false, rules}
use Rattle.iface_host.specs.Guarded.{is_nothing_learnt}
use Rattle.iface_host.specs.Properties.{machine_of}
use Rattle.iface_host.proofs.GuardCalls.{update_left, update_made, update_off}
use Rattle.iface_host.proofs.host.IfaceHost.keep_update.Goals as goal

pub returns-then-not-standing : goal.returns-then-not-standing
returns-then-not-standing c =
    let off : c.args.standing.now.keeps_neighbors ≡ false = search rules in
    update_off c.args.self.now c.args.standing.now off

pub returns-then-not-is_nothing_learnt : goal.returns-then-not-is_nothing_learnt
returns-then-not-is_nothing_learnt c =
    let on : c.args.standing.now.keeps_neighbors ≡ true = search rules in
    let news : is_nothing_learnt c.args.standing.now (machine_of c.args.self.now) ≡ false = search rules in
    update_left c.args.self.now c.args.standing.now on news

pub returns : goal.returns
returns c =
    let on : c.args.standing.now.keeps_neighbors ≡ true = search rules in
    let same : is_nothing_learnt c.args.standing.now (machine_of c.args.self.now) ≡ true = search rules in
    update_made c.args.self.now _ c.args.standing.now on same (rw c.deref_mut.ensures.value at c.set_ra_update.ensures)
