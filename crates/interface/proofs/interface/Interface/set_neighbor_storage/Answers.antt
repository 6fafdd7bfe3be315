use Rattle.std.proofs.Common.{refl, vec_capacity}
use Rattle.interface.proofs.SettingCalls.{becomes}
use Rattle.host_machine.specs.Context.Host.{with_neighbor_room}
use Rattle.iface_tables.specs.Neighbor.{room_over}
use Rattle.interface.proofs.interface.Interface.set_neighbor_storage.Goals as goal

pub returns : goal.returns
returns c = λ sockets H h. becomes c.args.self.now.context c.set_neighbor_storage.new.context c.args.self.now.fragments sockets H h
    (λ K. with_neighbor_room K (room_over (vec_capacity c.args.storage))) (c.set_neighbor_storage.ensures sockets) (λ K slots. refl)
