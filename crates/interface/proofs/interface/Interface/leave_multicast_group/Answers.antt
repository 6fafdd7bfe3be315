use Rattle.std.proofs.Common.{refl, sym, ◌∙◌}
use Rattle.iface_tables.specs.Groups.{groups_after_leave}
use Rattle.host_machine.specs.Context.Host.{with_groups}
use Rattle.host_machine.specs.Multicast.Joins.{LeaveTaken, NoGroupEither}
use Rattle.interface.proofs.SettingCalls.{kept, led}
use Rattle.interface.proofs.interface.Interface.leave_multicast_group.Goals as goal

pub returns-then-not-is_multicast : goal.returns-then-not-is_multicast
returns-then-not-is_multicast c = λ sockets H h. kept H h (NoGroupEither (sym c.is_multicast.ensures ∙ c.if-not-is_multicast.true) refl refl)

pub returns : goal.returns
returns c = λ sockets H h.
    led c.args.self.now.context c.leave_group.new.context c.args.self.now.fragments sockets H h
    (λ K. with_groups K (groups_after_leave K.groups c.args.group)) (c.leave_group.ensures sockets) (λ K slots. refl)
    (LeaveTaken (sym c.is_multicast.ensures ∙ c.if-not-is_multicast.false) refl refl)
