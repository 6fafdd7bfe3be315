use Rattle.std.proofs.Common.{refl}
use Rattle.host_machine.specs.Context.Host.{with_slaac}
use Rattle.interface.proofs.SettingCalls.{becomes}
use Rattle.interface.proofs.interface.Interface.set_ra_update.Goals as goal

pub returns : goal.returns
returns c = λ sockets H h. becomes c.args.self.now.context c.set_ra_update.new.context c.args.self.now.fragments sockets H h
    (λ K. with_slaac K (record K.slaac { changed = c.args.changed })) (c.set_ra_update.ensures sockets) (λ K slots. refl)
