-- A network of hosts, and what comes to their connections.
use Rattle.std.specs.Prelude.{◌≡◌, ℕ, Bool, ◌==◌, true, List, [], ◌∷◌, ◌++◌, Some, if◌then◌else◌}
use Rattle.std.specs.List.{AllByRecursion, Contains, slice_get}
use Rattle.net_base.specs.Device.{handed_frames}
use Rattle.net_base.specs.declared.phy.Medium.{Medium}
use Rattle.ip_address.specs.declared.cidr.IpCidr.{IpCidr}
use Rattle.host_machine.specs.Context.Host.{Host}
use Rattle.host_machine.specs.Interface.Run.{Transition}
use Rattle.host_laws.specs.Network.{SentBySome, IsHost}
use Rattle.host_laws.specs.RawTcp.{SendsTcpByRaw}
use Rattle.tcp_host.specs.declared.iss.Endpoints.{Endpoints}
use Rattle.tcp_sockets.specs.Reading.{AreEnds, reversed}
use Rattle.tcp_machine.specs.Segments as machine
use Rattle.tcp_host_laws.specs.Lives.{Life, side_of}
use Rattle.tcp_host_laws.specs.Pairs.{StandsFor}
use Rattle.tcp_host_laws.specs.Turns.{Came}
use Rattle.tcp_host_laws.specs.TcpNetworks.Beginnings.{IsNew}
use Rattle.tcp_host_laws.specs.TcpNetworks.Stations.{Station, Goes}
use Rattle.tcp_host_laws.specs.TcpNetworks.Receptions.{GetsNoFragment, WaitAsBrought}

-- a transition of one host
pub record Move : Type 0 where
  pub host : ℕ
  pub transition : Transition

abbrev pub transitions_of : List Move → ℕ → List Transition
transitions_of [] i = []
transitions_of (m ∷ ms) i = if m.host == i then m.transition ∷ transitions_of ms i else transitions_of ms i

-- each frame that is received in a move had been sent by one of the hosts in a move before it
abbrev pub InOrder : List Host → List Move → Type 0
InOrder hosts moves =
    (before after : List Move) (m : Move) → before ++ m ∷ after ≡ moves →
    AllByRecursion (SentBySome hosts (transitions_of before)) (handed_frames m.transition.told)

-- A network of hosts on one medium, with their connections. Each speaks TCP by raw sockets alone, and its owner does
-- nothing but turns of a host of connections; at first there was no connection. No frame comes from outside, and none that is
-- received carries a fragment of TCP. Each connection has ends that a packet can name.
pub record IsNetwork (m : Medium) (hosts : List Host) (first last : ℕ → Station) (moves : List Move) : Type 0 where
  pub speaks : (j : ℕ) (a : Host) → slice_get hosts j ≡ Some a →
      SendsTcpByRaw hosts (transitions_of moves) m a (transitions_of moves j)
  pub order : InOrder hosts moves
  pub new : (j : ℕ) (a : Host) → slice_get hosts j ≡ Some a → IsNew (first j) a.sockets
  pub goes : (j : ℕ) (a : Host) → slice_get hosts j ≡ Some a → Goes (first j) (transitions_of moves j) (last j)
  pub whole : AllByRecursion (λ p. GetsNoFragment p.transition) moves
  pub ends : (j : ℕ) (a : Host) (l : Life) → slice_get hosts j ≡ Some a → Contains (last j).lives l → AreEnds l.ends

-- the hosts' stations between two parts of the moves
pub record AreBetween (hosts : List Host) (first last : ℕ → Station) (before after : List Move)
    (mid : ℕ → Station) : Type 0 where
  pub been : (j : ℕ) (a : Host) → slice_get hosts j ≡ Some a → Goes (first j) (transitions_of before j) (mid j)
  pub to_go : (j : ℕ) (a : Host) → slice_get hosts j ≡ Some a → Goes (mid j) (transitions_of after j) (last j)

-- each packet of TCP that waits at a raw socket before a move was sent in a life at one of the hosts, in a move
-- before it, or is a reset
abbrev pub NetworksBring : Type 0
NetworksBring =
    (m : Medium) (hosts : List Host) (first last : ℕ → Station) (moves : List Move) →
    IsNetwork m hosts first last moves →
    (before after : List Move) (x : Move) → before ++ x ∷ after ≡ moves → (mid : ℕ → Station) →
    AreBetween hosts first last before (x ∷ after) mid → (a : Host) → slice_get hosts x.host ≡ Some a →
    WaitAsBrought hosts mid x.transition.before.sockets

-- a segment that comes between these ends was sent in a life at one of the hosts, between the ends reversed
pub record WasSentBetween (hosts : List Host) (stations : ℕ → Station) (e : Endpoints)
    (s : machine.Segment) : Type 0 where
  pub sender : ℕ
  pub is_host : IsHost hosts sender
  pub life : Life
  pub there : Contains (stations sender).lives life
  pub ends : life.ends ≡ reversed e
  pub stands : StandsFor (side_of life).sent s

-- or it is a reset, and may be anyone's
pub data ComesFromLife (hosts : List Host) (stations : ℕ → Station) (e : Endpoints) (s : machine.Segment) : Type 0 where
  OfSome : WasSentBetween hosts stations e s → ComesFromLife hosts stations e s
  OfAnyone : s.rst ≡ true → ComesFromLife hosts stations e s

-- whatever segment comes to a connection in a move was sent so, in a move before it
abbrev pub SegmentsComeFromLives : Type 0
SegmentsComeFromLives =
    (m : Medium) (hosts : List Host) (first last : ℕ → Station) (moves : List Move) →
    IsNetwork m hosts first last moves →
    (before after : List Move) (x : Move) → before ++ x ∷ after ≡ moves → (mid : ℕ → Station) →
    AreBetween hosts first last before (x ∷ after) mid → (a : Host) → slice_get hosts x.host ≡ Some a →
    (checked : Bool) (own : List IpCidr) (e : Endpoints) (s : machine.Segment) →
    Came checked own x.transition.before.sockets e s →
    ComesFromLife hosts mid e s
