use Rattle.std.proofs.Common.{refl}
use Rattle.host_machine.specs.Context.Host.{with_neighbors}
use Rattle.iface_tables.specs.Neighbor.{after_limit}
use Rattle.interface.proofs.SettingCalls.{becomes}
use Rattle.interface.proofs.interface.Interface.limit_neighbor.Goals as goal

pub returns : goal.returns
returns c = λ sockets H h. becomes c.args.self.now.context c.limit_neighbor.new.context c.args.self.now.fragments sockets H h
    (λ K. with_neighbors K (after_limit K.neighbors c.args.address c.args.expires_at)) (c.limit_neighbor.ensures sockets) (λ K slots. refl)
