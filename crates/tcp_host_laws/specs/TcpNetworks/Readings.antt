-- What programs read from connections on a network of hosts.
use Rattle.std.specs.Prelude.{◌≡◌, ℕ, ◌≤◌, ◌^◌, false, List}
use Rattle.net_base.specs.declared.phy.Medium.{Medium}
use Rattle.host_machine.specs.Context.Host.{Host}
use Rattle.tcp_sockets.specs.Reading.{reversed}
use Rattle.tcp_laws.specs.Machines.{Move as Acted, StreamHolds}
use Rattle.tcp_host_laws.specs.Lives.{Life, side_of}
use Rattle.tcp_host_laws.specs.Pairs.{start_of, IsOrder, AreRecent}
use Rattle.tcp_host_laws.specs.TcpNetworks.Stations.{Station}
use Rattle.tcp_host_laws.specs.TcpNetworks.Networks.{Move, IsNetwork}
use Rattle.tcp_host_laws.specs.TcpNetworks.Orders.{IsLifeAt, IsOnly}

-- The acts of two lives have an order in which whatever comes to the one had been sent by the other, or is a reset. If it
-- is recent, in this order or in any other such one, what a program read from the one is a beginning of what the other's
-- program wrote, and all of it, once it is told the end.
pub record Keep (x y : Life) : Type 0 where
  pub acts : List Acted
  pub order : IsOrder x y acts
  pub streams : (given : List Acted) → IsOrder x y given → AreRecent x.number y.number (start_of x y) given →
      StreamHolds (side_of x) (side_of y) × StreamHolds (side_of y) (side_of x)

-- two lives of different hosts of a network do, each being the only one between its ends, that no cookie began
abbrev pub NetworksKeep : Type 0
NetworksKeep =
    (m : Medium) (hosts : List Host) (first last : ℕ → Station) (moves : List Move) →
    IsNetwork m hosts first last moves →
    (i n j o : ℕ) (x y : Life) → (i ≡ j → ⊥) → IsLifeAt hosts last i n x → IsLifeAt hosts last j o y →
    y.ends ≡ reversed x.ends → x.is_of_cookie ≡ false → y.is_of_cookie ≡ false →
    IsOnly hosts last i n x.ends → IsOnly hosts last j o y.ends → x.room ≤ 2 ^ 30 → y.room ≤ 2 ^ 30 → Keep x y
