use Rattle.std.proofs.Common.{ap, sym, ◌∙◌}
use Rattle.host_machine.specs.Context.Host.{Host, no_sockets}
use Rattle.interface_client.proofs.takes_any.Goals as goal

pub returns-clause-any : goal.returns-clause-any
returns-clause-any c = λ sockets.
    let host = c.stands_for_a_host.ensures sockets in
    sym (ap (λ (H : Host). H.any_ip) (c.set_any_ip.ensures sockets host.0 host.1).same)

pub returns-clause-told : goal.returns-clause-told
returns-clause-told c = c.any_ip.ensures no_sockets ∙ returns-clause-any c no_sockets
