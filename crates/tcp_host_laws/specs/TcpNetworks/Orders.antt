-- The order of what two connections on a network did.
use Rattle.std.specs.Prelude.{◌≡◌, ℕ, ◌==◌, false, List, [], ◌∷◌, length, Option, Some, None, if◌then◌else◌}
use Rattle.std.specs.List.{slice_get}
use Rattle.net_base.specs.declared.phy.Medium.{Medium}
use Rattle.host_machine.specs.Context.Host.{Host}
use Rattle.tcp_host.specs.declared.iss.Endpoints.{Endpoints}
use Rattle.tcp_sockets.specs.Reading.{reversed}
use Rattle.tcp_laws.specs.Machines.{Move as Acted}
use Rattle.tcp_host_laws.specs.Lives.{Life}
use Rattle.tcp_host_laws.specs.Pairs.{IsOrder}
use Rattle.tcp_host_laws.specs.TcpNetworks.Stations.{Station}
use Rattle.tcp_host_laws.specs.TcpNetworks.Networks.{Move, IsNetwork}

-- the life at a host before which so many began there; a list has the newest one first
abbrev pub began_as : ℕ → List Life → Option Life
began_as k [] = None
began_as k (l ∷ ls) = if length ls == k then Some l else began_as k ls

-- a life of one of the hosts
pub record IsLifeAt (hosts : List Host) (last : ℕ → Station) (j n : ℕ) (l : Life) : Type 0 where
  pub host : Host
  pub is_host : slice_get hosts j ≡ Some host
  pub there : began_as n (last j).lives ≡ Some l

-- it is the only one of all these hosts between these ends
pub record IsOnly (hosts : List Host) (last : ℕ → Station) (j n : ℕ) (e : Endpoints) : Type 0 where
  pub one_host : (k o : ℕ) (l : Life) → IsLifeAt hosts last k o l → l.ends ≡ e → k ≡ j
  pub one : (k o : ℕ) (l : Life) → IsLifeAt hosts last k o l → l.ends ≡ e → o ≡ n

-- They have one, if a SYN or its program began each of them: whether the peer sent the SYN that an acknowledgement tells, no host knows
abbrev pub NetworksOrder : Type 0
NetworksOrder =
    (m : Medium) (hosts : List Host) (first last : ℕ → Station) (moves : List Move) →
    IsNetwork m hosts first last moves →
    (i n j o : ℕ) (x y : Life) → (i ≡ j → ⊥) → IsLifeAt hosts last i n x → IsLifeAt hosts last j o y →
    y.ends ≡ reversed x.ends → x.is_of_cookie ≡ false → y.is_of_cookie ≡ false →
    IsOnly hosts last i n x.ends → IsOnly hosts last j o y.ends → (acts : List Acted) × IsOrder x y acts
