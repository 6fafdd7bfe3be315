use Rattle.std.proofs.Common.{refl}
use Rattle.std.specs.Prelude.{vec_capacity}
use Rattle.host_machine.specs.Context.Host.{with_route_room}
use Rattle.iface_tables.specs.Route.{route_room_over}
use Rattle.interface.proofs.interface.Interface.set_route_storage.Goals as goal
use Rattle.interface.proofs.SettingCalls.{becomes}

pub returns : goal.returns
returns c = λ sockets H h. becomes c.args.self.now.context c.set_route_storage.new.context c.args.self.now.fragments sockets H h
    (λ K. with_route_room K (route_room_over (vec_capacity c.args.routes) (vec_capacity c.args.nodes))) (c.set_route_storage.ensures sockets) (λ K slots. refl)
