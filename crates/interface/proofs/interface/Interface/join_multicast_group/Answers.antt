use Rattle.std.proofs.Common.{refl, sym, ◌∙◌, ap}
use Rattle.iface_tables.specs.Groups.{is_refused, groups_after_join}
use Rattle.host_machine.specs.Context.Host.{Host, with_groups}
use Rattle.host_machine.specs.Multicast.Joins.{JoinTaken, NoGroup, NoPlace}
use Rattle.interface.proofs.SettingCalls.{has_none, has_place, kept, led}
use Rattle.interface.proofs.interface.Interface.join_multicast_group.Goals as goal

pub returns-then-not-is_multicast : goal.returns-then-not-is_multicast
returns-then-not-is_multicast c = λ sockets H h. kept H h (NoGroup (sym c.is_multicast.ensures ∙ c.if-not-is_multicast.true) refl refl)

pub returns-in-Ok : goal.returns-in-Ok
returns-in-Ok c = λ sockets H h.
    led c.args.self.now.context c.join_group.new.context c.args.self.now.fragments sockets H h
    (λ K. with_groups K (groups_after_join K.group_room K.groups c.args.group)) (c.join_group.ensures.groups sockets) (λ K slots. refl)
    (JoinTaken (sym c.is_multicast.ensures ∙ c.if-not-is_multicast.false)
    (ap (λ (K : Host). is_refused K.group_room K.groups c.args.group) h.same
    ∙ has_place c.args.self.now.context.multicast.room c.args.self.now.context.multicast.groups c.args.group c.join_group.result c.join_group.ensures.answer c.in-Ok.is) refl refl)

pub returns-in-Err : goal.returns-in-Err
returns-in-Err c = λ sockets H h.
    led c.args.self.now.context c.join_group.new.context c.args.self.now.fragments sockets H h (λ K. K)
    ((rw c.in-Err.is at c.join_group.ensures.unchanged) sockets) (λ K slots. refl)
    (NoPlace (sym c.is_multicast.ensures ∙ c.if-not-is_multicast.false)
    (ap (λ (K : Host). is_refused K.group_room K.groups c.args.group) h.same ∙ has_none c.args.self.now.context.multicast.room c.args.self.now.context.multicast.groups c.args.group c.join_group.result
    c.in-Err.field-0 c.join_group.ensures.answer c.in-Err.is) refl refl)
