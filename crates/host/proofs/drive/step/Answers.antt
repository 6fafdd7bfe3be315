use Rattle.std.proofs.Common.{ap, sym, ◌∙◌}
use Rattle.host_machine.specs.declared.command.Command.TheVariants as command
use Rattle.host_machine.specs.declared.command.Answer.TheVariants as answer
use Rattle.iface_tables.specs.Route.{first, ipv4_gateway, ipv6_gateway, is_ipv4_gateway, is_ipv6_gateway, old_or_full, with_default, without_first}
use Rattle.host_machine.specs.Interface.Step.{UpdatedIpAddrs, JoinedGroup, LeftGroup, TookHardwareAddr, TookReassemblyTimeout}
use Rattle.host_machine.specs.Interface.Step.{TookAnyIp, UpdatedRoutes, AddedDefaultIpv4Route, RemovedDefaultIpv4Route}
use Rattle.host_machine.specs.Interface.Step.{AddedDefaultIpv6Route, RemovedDefaultIpv6Route, PolledMaintenance, PolledAt, PolledDelay}
use Rattle.host_machine.specs.Context.Host.{Host, at}
use Rattle.host_machine.specs.Interface.Polling.{after_maintenance}
use Rattle.interface.specs.Stands.{StandsFor}
use Rattle.host.proofs.DriveSteps.{was_led, polled, polled_egress, polled_all, untold, acted}
use Rattle.host.proofs.drive.step.Goals as goal

pub returns-in-UpdateIpAddrs : goal.returns-in-UpdateIpAddrs
returns-in-UpdateIpAddrs g c = λ H h.
    rw c.in-UpdateIpAddrs.is (was_led g.D.Device.tells g.O.Owner.did c.args.device.now c.args.owner.now
    (command.UpdateIpAddrs c.in-UpdateIpAddrs.list) (answer.UpdateIpAddrs c.put_ip_addrs.result) H
    (StandsFor c.put_ip_addrs.new.interface c.args.sockets.now) (g.met.D.Device.tells_nothing c.args.device.now)
    (c.put_ip_addrs.ensures c.args.sockets.now H h) (λ K follows. UpdatedIpAddrs follows))

pub returns-in-PollIngressSingle : goal.returns-in-PollIngressSingle
returns-in-PollIngressSingle g c = λ H h.
    rw c.in-PollIngressSingle.is (polled g.D.Device.tells g.O.Owner.did _ _ _ _ _ H _ (c.poll_ingress_single.ensures H h))

pub returns-in-PollEgress : goal.returns-in-PollEgress
returns-in-PollEgress g c = λ H h.
    rw c.in-PollEgress.is (polled_egress g.D.Device.tells g.O.Owner.did _ _ _ _ _ H _ (c.poll_egress.ensures H h))

pub returns-in-Poll : goal.returns-in-Poll
returns-in-Poll g c = λ H h.
    rw c.in-Poll.is (polled_all g.D.Device.tells g.O.Owner.did _ _ _ _ _ _ H _ (c.poll.ensures H h))

pub returns-in-PollMaintenance : goal.returns-in-PollMaintenance
returns-in-PollMaintenance g c = λ H h.
    rw c.in-PollMaintenance.is (untold g.D.Device.tells g.O.Owner.did c.args.device.now c.args.owner.now
    (command.PollMaintenance c.in-PollMaintenance.timestamp) answer.PollMaintenance H (after_maintenance (at H c.in-PollMaintenance.timestamp))
    (StandsFor c.poll_maintenance.new.self c.args.sockets.now)
    (g.met.D.Device.tells_nothing c.args.device.now) PolledMaintenance (c.poll_maintenance.ensures c.args.sockets.now H h))

pub returns-in-PollAt : goal.returns-in-PollAt
returns-in-PollAt g c = λ H h.
    rw c.in-PollAt.is (untold g.D.Device.tells g.O.Owner.did c.args.device.now c.args.owner.now (command.PollAt c.in-PollAt.timestamp)
    (answer.PollAt c.poll_at.result) H (at H c.in-PollAt.timestamp)
    (StandsFor c.poll_at.new.self c.args.sockets.now) (g.met.D.Device.tells_nothing c.args.device.now)
    (PolledAt (c.poll_at.ensures.least H h)) (c.poll_at.ensures.moment H h))

pub returns-in-PollDelay : goal.returns-in-PollDelay
returns-in-PollDelay g c = λ H h.
    let rest = c.poll_delay.ensures.rest H h in
    rw c.in-PollDelay.is (untold g.D.Device.tells g.O.Owner.did c.args.device.now c.args.owner.now (command.PollDelay c.in-PollDelay.timestamp)
    (answer.PollDelay c.poll_delay.result) H (at H c.in-PollDelay.timestamp)
    (StandsFor c.poll_delay.new.self c.args.sockets.now) (g.met.D.Device.tells_nothing c.args.device.now)
    (PolledDelay rest.0 rest.1 rest.2) (c.poll_delay.ensures.moment H h))

pub returns-in-UpdateRoutes : goal.returns-in-UpdateRoutes
returns-in-UpdateRoutes g c = λ H h.
    rw c.in-UpdateRoutes.is (untold g.D.Device.tells g.O.Owner.did c.args.device.now c.args.owner.now
    (command.UpdateRoutes c.in-UpdateRoutes.list) answer.UpdateRoutes H (record H { routes = c.in-UpdateRoutes.list.items })
    (StandsFor c.put_routes.new.interface c.args.sockets.now)
    (g.met.D.Device.tells_nothing c.args.device.now) UpdatedRoutes (c.put_routes.ensures c.args.sockets.now H h))

pub returns-in-AddDefaultIpv4Route : goal.returns-in-AddDefaultIpv4Route
returns-in-AddDefaultIpv4Route g c = λ H h.
    rw c.in-AddDefaultIpv4Route.is (untold g.D.Device.tells g.O.Owner.did c.args.device.now c.args.owner.now
    (command.AddDefaultIpv4Route c.in-AddDefaultIpv4Route.gateway) (answer.AddDefaultIpv4Route c.add_default_ipv4_route.result) H (record H {
      routes = with_default H.route_room is_ipv4_gateway H.routes (ipv4_gateway c.in-AddDefaultIpv4Route.gateway);
    })
    (StandsFor c.add_default_ipv4_route.new.interface c.args.sockets.now) (g.met.D.Device.tells_nothing c.args.device.now)
    (rw (c.add_default_ipv4_route.ensures.answer c.args.sockets.now ∙ ap (λ (K : Host). old_or_full K.route_room is_ipv4_gateway K.routes) (sym h.same))
    AddedDefaultIpv4Route) (c.add_default_ipv4_route.ensures.table c.args.sockets.now H h))

pub returns-in-RemoveDefaultIpv4Route : goal.returns-in-RemoveDefaultIpv4Route
returns-in-RemoveDefaultIpv4Route g c = λ H h.
    rw c.in-RemoveDefaultIpv4Route.is (untold g.D.Device.tells g.O.Owner.did c.args.device.now c.args.owner.now command.RemoveDefaultIpv4Route
    (answer.RemoveDefaultIpv4Route c.remove_default_ipv4_route.result) H (record H { routes = without_first is_ipv4_gateway H.routes })
    (StandsFor c.remove_default_ipv4_route.new.interface c.args.sockets.now) (g.met.D.Device.tells_nothing c.args.device.now)
    (rw (c.remove_default_ipv4_route.ensures.answer c.args.sockets.now ∙ ap (λ (K : Host). first is_ipv4_gateway K.routes) (sym h.same))
    RemovedDefaultIpv4Route) (c.remove_default_ipv4_route.ensures.table c.args.sockets.now H h))

pub returns-in-AddDefaultIpv6Route : goal.returns-in-AddDefaultIpv6Route
returns-in-AddDefaultIpv6Route g c = λ H h.
    rw c.in-AddDefaultIpv6Route.is (untold g.D.Device.tells g.O.Owner.did c.args.device.now c.args.owner.now
    (command.AddDefaultIpv6Route c.in-AddDefaultIpv6Route.gateway) (answer.AddDefaultIpv6Route c.add_default_ipv6_route.result) H (record H {
      routes = with_default H.route_room is_ipv6_gateway H.routes (ipv6_gateway c.in-AddDefaultIpv6Route.gateway);
    })
    (StandsFor c.add_default_ipv6_route.new.interface c.args.sockets.now) (g.met.D.Device.tells_nothing c.args.device.now)
    (rw (c.add_default_ipv6_route.ensures.answer c.args.sockets.now ∙ ap (λ (K : Host). old_or_full K.route_room is_ipv6_gateway K.routes) (sym h.same))
    AddedDefaultIpv6Route) (c.add_default_ipv6_route.ensures.table c.args.sockets.now H h))

pub returns-in-RemoveDefaultIpv6Route : goal.returns-in-RemoveDefaultIpv6Route
returns-in-RemoveDefaultIpv6Route g c = λ H h.
    rw c.in-RemoveDefaultIpv6Route.is (untold g.D.Device.tells g.O.Owner.did c.args.device.now c.args.owner.now command.RemoveDefaultIpv6Route
    (answer.RemoveDefaultIpv6Route c.remove_default_ipv6_route.result) H (record H { routes = without_first is_ipv6_gateway H.routes })
    (StandsFor c.remove_default_ipv6_route.new.interface c.args.sockets.now) (g.met.D.Device.tells_nothing c.args.device.now)
    (rw (c.remove_default_ipv6_route.ensures.answer c.args.sockets.now ∙ ap (λ (K : Host). first is_ipv6_gateway K.routes) (sym h.same))
    RemovedDefaultIpv6Route) (c.remove_default_ipv6_route.ensures.table c.args.sockets.now H h))

pub returns-in-JoinMulticastGroup : goal.returns-in-JoinMulticastGroup
returns-in-JoinMulticastGroup g c = λ H h.
    rw c.in-JoinMulticastGroup.is (was_led g.D.Device.tells g.O.Owner.did c.args.device.now c.args.owner.now
    (command.JoinMulticastGroup c.in-JoinMulticastGroup.group) (answer.JoinMulticastGroup c.join_multicast_group.result) H
    (StandsFor c.join_multicast_group.new.self c.args.sockets.now) (g.met.D.Device.tells_nothing c.args.device.now)
    (c.join_multicast_group.ensures c.args.sockets.now H h) (λ K follows. JoinedGroup follows))

pub returns-in-LeaveMulticastGroup : goal.returns-in-LeaveMulticastGroup
returns-in-LeaveMulticastGroup g c = λ H h.
    rw c.in-LeaveMulticastGroup.is (was_led g.D.Device.tells g.O.Owner.did c.args.device.now c.args.owner.now
    (command.LeaveMulticastGroup c.in-LeaveMulticastGroup.group) (answer.LeaveMulticastGroup c.leave_multicast_group.result) H
    (StandsFor c.leave_multicast_group.new.self c.args.sockets.now) (g.met.D.Device.tells_nothing c.args.device.now)
    (c.leave_multicast_group.ensures c.args.sockets.now H h) (λ K follows. LeftGroup follows))

pub returns-in-SetAnyIp : goal.returns-in-SetAnyIp
returns-in-SetAnyIp g c = λ H h.
    rw c.in-SetAnyIp.is (untold g.D.Device.tells g.O.Owner.did c.args.device.now c.args.owner.now
    (command.SetAnyIp c.in-SetAnyIp.any_ip) answer.SetAnyIp H (record H { any_ip = c.in-SetAnyIp.any_ip })
    (StandsFor c.set_any_ip.new.self c.args.sockets.now)
    (g.met.D.Device.tells_nothing c.args.device.now) TookAnyIp (c.set_any_ip.ensures c.args.sockets.now H h))

pub returns-in-SetHardwareAddr : goal.returns-in-SetHardwareAddr
returns-in-SetHardwareAddr g c = λ H h.
    rw c.in-SetHardwareAddr.is (was_led g.D.Device.tells g.O.Owner.did c.args.device.now c.args.owner.now
    (command.SetHardwareAddr c.in-SetHardwareAddr.hardware_addr) (answer.SetHardwareAddr c.set_hardware_addr.result) H
    (StandsFor c.set_hardware_addr.new.self c.args.sockets.now) (g.met.D.Device.tells_nothing c.args.device.now)
    (c.set_hardware_addr.ensures c.args.sockets.now H h) (λ K follows. TookHardwareAddr follows))

pub returns-in-SetReassemblyTimeout : goal.returns-in-SetReassemblyTimeout
returns-in-SetReassemblyTimeout g c = λ H h.
    rw c.in-SetReassemblyTimeout.is (was_led g.D.Device.tells g.O.Owner.did c.args.device.now c.args.owner.now
    (command.SetReassemblyTimeout c.in-SetReassemblyTimeout.timeout) (answer.SetReassemblyTimeout c.set_reassembly_timeout.result) H
    (StandsFor c.set_reassembly_timeout.new.self c.args.sockets.now) (g.met.D.Device.tells_nothing c.args.device.now)
    (c.set_reassembly_timeout.ensures c.args.sockets.now H h) (λ K follows. TookReassemblyTimeout follows))

pub returns-in-Owner : goal.returns-in-Owner
returns-in-Owner g c =
    rw c.in-Owner.is (acted g.D.Device.tells g.O.Owner.did c.args.device.now c.args.owner.now c.act.new.self c.in-Owner.number c.args.interface.now
    c.args.sockets.now c.act.new.sockets c.act.ensures (g.met.D.Device.tells_nothing c.args.device.now))
