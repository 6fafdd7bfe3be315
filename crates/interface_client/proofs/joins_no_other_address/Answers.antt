use Rattle.std.proofs.Common.{ap, sym, ◌∙◌}
use Rattle.host_machine.specs.Context.Host.{Host, no_sockets}
use Rattle.interface_client.proofs.Refusals.{group_refused}
use Rattle.interface_client.proofs.joins_no_other_address.Goals as goal

pub returns-clause-refused : goal.returns-clause-refused
returns-clause-refused c =
    let host = c.stands_for_a_host.ensures no_sockets in
    let led = c.join_multicast_group.ensures no_sockets host.0 host.1 in
    (group_refused c.args.address c.join_multicast_group.result host.0 led.host c.requires led.follows).0

pub returns-clause-kept : goal.returns-clause-kept
returns-clause-kept c = λ sockets.
    let host = c.stands_for_a_host.ensures sockets in
    let led = c.join_multicast_group.ensures sockets host.0 host.1 in
    let same = (group_refused c.args.address c.join_multicast_group.result host.0 led.host c.requires led.follows).1 in
    sym (ap (λ (H : Host). H.groups) led.stands.same) ∙ ap (λ (H : Host). H.groups) same ∙ ap (λ (H : Host). H.groups) host.1.same
