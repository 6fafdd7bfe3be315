use Rattle.std.proofs.Common.{refl}
use Rattle.host_machine.specs.Context.Host.{with_igmp_report}
use Rattle.interface.proofs.SettingCalls.{becomes}
use Rattle.interface.proofs.interface.Interface.set_igmp_report.Goals as goal

pub returns : goal.returns
returns c = λ sockets H h. becomes c.args.self.now.context c.set_igmp_report.new.context c.args.self.now.fragments sockets H h
    (λ K. with_igmp_report K c.args.report) (c.set_igmp_report.ensures sockets) (λ K slots. refl)
