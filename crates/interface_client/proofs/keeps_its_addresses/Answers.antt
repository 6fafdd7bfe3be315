use Rattle.std.proofs.Common.{ap, sym, ◌∙◌}
use Rattle.host_machine.specs.Context.Host.{Host, no_sockets}
use Rattle.interface_client.proofs.Refusals.{list_refused}
use Rattle.interface_client.proofs.keeps_its_addresses.Goals as goal

pub returns-clause-refused : goal.returns-clause-refused
returns-clause-refused c =
    let host = c.stands_for_a_host.ensures no_sockets in
    let led = c.put_ip_addrs.ensures no_sockets host.0 host.1 in
    (list_refused c.args.list.now.items c.put_ip_addrs.result host.0 led.host c.requires led.follows).0

pub returns-clause-kept : goal.returns-clause-kept
returns-clause-kept c = λ sockets.
    let host = c.stands_for_a_host.ensures sockets in
    let led = c.put_ip_addrs.ensures sockets host.0 host.1 in
    let same = (list_refused c.args.list.now.items c.put_ip_addrs.result host.0 led.host c.requires led.follows).1 in
    sym (ap (λ (H : Host). H.ip_addrs) led.stands.same) ∙ ap (λ (H : Host). H.ip_addrs) same ∙ ap (λ (H : Host). H.ip_addrs) host.1.same
