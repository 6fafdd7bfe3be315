use Rattle.std.proofs.Common.{refl}
use Rattle.host_machine.specs.Context.Host.{with_neighbors}
use Rattle.interface.proofs.SettingCalls.{becomes}
use Rattle.interface.proofs.interface.Interface.set_silence.Goals as goal

pub returns : goal.returns
returns c = λ sockets H h. becomes c.args.self.now.context c.set_silence.new.context c.args.self.now.fragments sockets H h
    (λ K. with_neighbors K (record K.neighbors { silent_until = c.args.until })) (c.set_silence.ensures sockets) (λ K slots. refl)
