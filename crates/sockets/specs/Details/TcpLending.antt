-- The value of a TCP socket after the use of what it offered.
use Rattle.std.specs.Prelude.{◌≡◌, ℤ, Option}
use Rattle.std.specs.Borrow.{MutBor, Fml, RattleType}
use Rattle.std.specs.Io.BufRead.{Rests}
use Rattle.ip_address.specs.declared.ip.IpAddress.{IpAddress}
use Rattle.sockets.specs.contracts.tcp.SocketOf.{the_row}
use Rattle.sockets.specs.Tcp.{TcpSocket, socket_after_offer}

module _ (K : RattleType) (s : MutBor TcpSocket) where
  abbrev pub Settles : ℤ → (IpAddress → Option IpAddress) → Fml
  Settles moment source = Rests (the_row K) s (λ new. new ≡ socket_after_offer moment source s.now)
