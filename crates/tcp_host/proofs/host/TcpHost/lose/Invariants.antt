use Rattle.std.proofs.Common.{◌≡◌, length}
use Rattle.tcp_host.specs.Reports.{lost}
use Rattle.tcp_host.proofs.host.TcpHost.lose.Given as goal

abbrev pub invariant-loop-place : goal.invariant-loop-place
invariant-loop-place l =
    (l.self ≡ lost l.fn.now l.fn.address l.place l.fn.self) × (length l.self.slots ≡ length l.fn.self.slots)
