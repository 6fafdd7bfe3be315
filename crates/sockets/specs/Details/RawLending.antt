-- The value of a raw socket after the use of what it offered.
use Rattle.std.specs.Prelude.{◌≡◌}
use Rattle.std.specs.Borrow.{MutBor, Fml, RattleType}
use Rattle.std.specs.Io.BufRead.{Rests}
use Rattle.sockets.specs.contracts.raw.SocketOf.{the_row}
use Rattle.sockets.specs.Raw.{RawSocket, socket_after_offer}

module _ (K : RattleType) (s : MutBor RawSocket) where
  abbrev pub Settles : Fml
  Settles = Rests (the_row K) s (λ new. new ≡ socket_after_offer s.now)
