-- The value of a socket after the use of what it offered.
use Rattle.std.specs.Prelude.{◌≡◌, ℤ, Option}
use Rattle.std.specs.Borrow.{MutBor, Fml, RattleType}
use Rattle.std.specs.Io.BufRead.{Rests}
use Rattle.ip_address.specs.declared.ip.IpAddress.{IpAddress}
use Rattle.sockets.specs.declared.socket.SocketOf.{SocketOf}
use Rattle.sockets.specs.contracts.socket.SocketOf.{the_row}
use Rattle.sockets.specs.Kinds.{socket_after_offer}

module _ (K : RattleType) (s : MutBor (SocketOf K.Denot)) where
  abbrev pub Settles : ℤ → (IpAddress → Option IpAddress) → Fml
  Settles moment source = Rests (the_row K) s (λ new. new ≡ socket_after_offer moment source s.now)
