-- What waits to be sent at the raw sockets of a host, in its run.
use Rattle.std.specs.Prelude.{◌≡◌, ℕ, Bool, List, Some}
use Rattle.std.specs.List.{AllByRecursion}
use Rattle.net_base.specs.Checksum.{is_tx}
use Rattle.ip_address.specs.Protocol.{number_of}
use Rattle.sockets.specs.Raw.{RawSocket}
use Rattle.host_machine.specs.Context.Host.{Host, SocketSet}
use Rattle.host_machine.specs.Interface.Run.{Transition, Run}
use Rattle.host_laws.specs.Network.{Runs}
use Rattle.host_laws.specs.RawArrivals.{raw_at}
use Rattle.host_laws.specs.RawPackets.{GetsRaw}
use Rattle.tcp_host_laws.specs.Lives.{Life}
use Rattle.tcp_host_laws.specs.Turns.{WasSent}
use Rattle.tcp_host_laws.specs.TcpNetworks.Stations.{Station, Goes}

-- each packet that waits to be sent at a raw socket of TCP was sent in one of these lives, or is a reset of none
abbrev pub WaitAsSent : Bool → List Life → SocketSet → Type 0
WaitAsSent summed ls sockets =
    (i : ℕ) (r : RawSocket) → raw_at sockets i ≡ Some r → number_of r.protocol ≡ 6 →
    AllByRecursion (λ p. WasSent summed ls p.1) r.tx.packets

-- If it is so where a run begins, it is so before each of its transitions, and where it ends. What leaves a queue in a
-- transition waited before it.
abbrev pub QueuesHoldWhatWasSent : Type 0
QueuesHoldWhatWasSent =
    (hosts : List Host) (runs : Runs) (a a' : Host) (ps : List Transition) (first last : Station) →
    Run a ps a' → Goes first ps last → AllByRecursion (GetsRaw 6 hosts runs) ps →
    WaitAsSent (is_tx first.carrier.checksum) first.lives a.sockets →
    AllByRecursion (λ p. WaitAsSent (is_tx first.carrier.checksum) last.lives p.before.sockets) ps
    × WaitAsSent (is_tx first.carrier.checksum) last.lives a'.sockets
