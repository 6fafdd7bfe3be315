use Rattle.std.proofs.Common.{take}
use Rattle.host_machine.specs.Context.Host.{Host}
use Rattle.host_machine.specs.Interface.Run.{Ran}
use Rattle.interface.specs.Stands.{StandsFor}
use Rattle.host.proofs.drive.drive.Given as goal

abbrev pub invariant-loop-i : goal.invariant-loop-i
invariant-loop-i g l =
    (H : Host) → StandsFor l.fn.interface l.fn.sockets H →
    Ran g.D.Device.tells g.O.Owner.did l.fn.device l.device l.fn.owner l.owner (take l.i l.commands)
    (take l.i l.answers) H (StandsFor l.interface l.sockets)
