use Rattle.std.proofs.Common.{refl}
use Rattle.interface.proofs.SettingCalls.{becomes}
use Rattle.interface.proofs.interface.Interface.set_any_ip.Goals as goal

pub returns : goal.returns
returns c = λ sockets H h. becomes c.args.self.now.context c.set_any_ip.new.context c.args.self.now.fragments sockets H h
    (λ K. record K { any_ip = c.args.any_ip }) (c.set_any_ip.ensures sockets) (λ K slots. refl)
