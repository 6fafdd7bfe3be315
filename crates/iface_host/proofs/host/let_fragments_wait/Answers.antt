use Rattle.std.proofs.Common.{◌≤◌, rules}
use Rattle.host_machine.specs.Context.Host.{no_sockets}
use Rattle.iface_host.proofs.FrameCalls.{timed}
use Rattle.iface_host.proofs.RefusalCalls.{waits_within}
use Rattle.iface_host.proofs.host.let_fragments_wait.Goals as goal

pub returns-in-Ok-clause-waits : goal.returns-in-Ok-clause-waits
returns-in-Ok-clause-waits c = λ sockets H h.
    timed c.args.interface.now c.set_reassembly_timeout.new.self c.args.timeout sockets H h
    (rw c.in-Ok.is at c.set_reassembly_timeout.ensures sockets H h)

pub returns-in-Err-clause-why : goal.returns-in-Err-clause-why
returns-in-Err-clause-why c =
    let within : c.args.timeout ≤ 86_400_000_000 = search rules in
    absurd (waits_within c.args.interface.now c.set_reassembly_timeout.new.self c.args.timeout c.in-Err.field-0 c.stands_for_a_host.ensures within no_sockets
    (rw c.in-Err.is at c.set_reassembly_timeout.ensures))

pub returns-in-Err-clause-refused : goal.returns-in-Err-clause-refused
returns-in-Err-clause-refused c =
    let within : c.args.timeout ≤ 86_400_000_000 = search rules in
    absurd (waits_within c.args.interface.now c.set_reassembly_timeout.new.self c.args.timeout c.in-Err.field-0 c.stands_for_a_host.ensures within no_sockets
    (rw c.in-Err.is at c.set_reassembly_timeout.ensures))
