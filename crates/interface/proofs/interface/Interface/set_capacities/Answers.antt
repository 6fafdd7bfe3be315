use Rattle.std.proofs.Common.{refl}
use Rattle.host_machine.specs.Context.Settings.{with_capacities}
use Rattle.interface.proofs.interface.Interface.set_capacities.Goals as goal
use Rattle.interface.proofs.SettingCalls.{becomes}

pub returns : goal.returns
returns c = λ sockets H h. becomes c.args.self.now.context c.set_capacities.new.context c.args.self.now.fragments sockets H h
    (λ K. with_capacities K c.args.capacities) (c.set_capacities.ensures sockets) (λ K slots. refl)
