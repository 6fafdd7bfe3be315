use Rattle.std.proofs.Common.{ap, ◌∙◌}
use Rattle.std.specs.Prelude.{not}
use Rattle.iface_dhcp.proofs.Waiting.{there_told, told}
use Rattle.iface_dhcp.proofs.poll.is_there.Goals as goal

pub returns-in-Ok : goal.returns-in-Ok
returns-in-Ok c = ap told c.in-Ok.ensures.why ∙ there_told _ _

pub returns-in-Err : goal.returns-in-Err
returns-in-Err c = ap not c.is_no_socket.ensures ∙ (ap told c.in-Err.ensures.why ∙ there_told _ _)
