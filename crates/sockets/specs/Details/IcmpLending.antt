-- The value of an ICMP socket after the use of what it offered.
use Rattle.std.specs.Prelude.{◌≡◌, Option}
use Rattle.std.specs.Borrow.{MutBor, Fml, RattleType}
use Rattle.std.specs.Io.BufRead.{Rests}
use Rattle.ip_address.specs.declared.ip.IpAddress.{IpAddress}
use Rattle.sockets.specs.contracts.icmp.SocketOf.{the_row}
use Rattle.sockets.specs.Icmp.{IcmpSocket, socket_after_offer}

module _ (K : RattleType) (s : MutBor IcmpSocket) where
  abbrev pub Settles : (IpAddress → Option IpAddress) → Fml
  Settles source = Rests (the_row K) s (λ new. new ≡ socket_after_offer source s.now)
