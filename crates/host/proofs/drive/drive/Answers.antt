use Rattle.std.proofs.Common.{◌≡◌, ◌∙◌, ap, sym, length, take, arith}
use Rattle.std.proofs.lemmas.List.{take_more, take_more_set, take_all}
use Rattle.host_machine.specs.Context.Host.{Host}
use Rattle.host_laws.proofs.Interface.RunConcatenation.{no_commands}
use Rattle.interface.specs.Stands.{StandsFor}
use Rattle.host.proofs.DriveSteps.{ran_more}
use Rattle.host.proofs.drive.drive.Goals as goal

pub loop-i-init : goal.loop-i-init
loop-i-init g c = λ H h. no_commands g.D.Device.tells g.O.Owner.did g.met.D.Device.tells_on c.args.device.now c.args.owner.now H _
    (g.met.D.Device.tells_nothing c.args.device.now) h

pub loop-i-preserved : goal.loop-i-preserved
loop-i-preserved g c = λ H h.
    ran_more g.D.Device.tells g.O.Owner.did g.met.D.Device.tells_on c.args.device.now c.loop-i.device c.step.new.device
    c.args.owner.now c.loop-i.owner c.step.new.owner
    (take c.loop-i.i c.args.commands.now) _ c.index-commands-i.result (take c.loop-i.i c.loop-i.answers) _ c.step.result H
    (StandsFor c.loop-i.interface c.loop-i.sockets) (StandsFor c.step.new.interface c.step.new.sockets)
    (rw (← c.index-commands-i.is) at (take_more c.args.commands.now c.loop-i.i c.index-commands-i.result c.loop-i-test.true))
    (take_more_set c.loop-i.answers c.loop-i.i c.step.result (omega arith))
    (c.loop-i.invariant H h) c.step.ensures

pub returns : goal.returns
returns g c = λ H h.
    let commands : take c.loop-i.i c.args.commands.now ≡ c.args.commands.now = take_all c.loop-i.i c.args.commands.now (omega arith) in
    let answers : take c.loop-i.i c.loop-i.answers ≡ c.loop-i.answers = take_all c.loop-i.i c.loop-i.answers (omega arith) in
    let regular = c.is_on_its_medium.ensures c.args.sockets.now H h in
    record {
      regular = regular;
      sound = record {
        waits = ap (λ (K : Host). length K.sockets.waits) h.same ∙ c.has_a_wait_for_each.ensures
            ∙ sym (ap (λ (K : Host). length K.sockets.places) h.same);
        mtu = regular.mtu;
      };
      ran = rw (commands, answers) at (c.loop-i.invariant H h);
    }
