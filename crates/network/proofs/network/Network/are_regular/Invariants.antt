use Rattle.std.proofs.Common.{◌≡◌, ◌<◌, ℕ, Some}
use Rattle.std.specs.List.{slice_get}
use Rattle.host_machine.specs.Context.Host.{Host}
use Rattle.host_machine.specs.Context.Real.{IsRegular}
use Rattle.interface.specs.Stands.{StandsFor}
use Rattle.host.specs.declared.link.Host.{Host as Linked}
use Rattle.network.proofs.network.Network.are_regular.Given as goal

abbrev pub invariant-loop-i : goal.invariant-loop-i
invariant-loop-i g l = (i : ℕ) (h : Linked g.row.O.Denot) (H : Host) → i < l.i →
    slice_get l.self.hosts.items i ≡ Some h → StandsFor h.interface h.sockets H → IsRegular H
