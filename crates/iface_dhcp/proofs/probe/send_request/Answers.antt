use Rattle.std.proofs.Common.{refl}
use Rattle.iface_dhcp.specs.Probe.{NotRequested}
use Rattle.iface_dhcp.proofs.probe.send_request.Goals as goal

pub returns-in-Err : goal.returns-in-Err
returns-in-Err c = NotRequested c.in-Err.refusal refl c.in-Err.ensures.refused
