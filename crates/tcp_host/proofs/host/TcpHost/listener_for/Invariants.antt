use Rattle.std.proofs.Common.{◌≡◌, ◌<◌, ℕ, false}
use Rattle.tcp_host.specs.Listener.{listens_at}
use Rattle.tcp_host.specs.Host.{listener_at}
use Rattle.tcp_host.proofs.host.TcpHost.listener_for.Given as goal

abbrev pub invariant-loop-index : goal.invariant-loop-index
invariant-loop-index l = (k : ℕ) → k < l.index → listens_at l.endpoints.local_addr l.endpoints.local_port (listener_at k l.self) ≡ false
