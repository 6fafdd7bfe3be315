-- Hosts that get frames of one another alone, and speak TCP by raw sockets alone.
use Rattle.std.specs.Prelude.{◌≡◌, ◌≢◌, ◌⊎◌, ℕ, List, [], Some, None}
use Rattle.std.specs.List.{AllByRecursion, slice_get}
use Rattle.net_base.specs.Device.{handed_frames}
use Rattle.net_base.specs.declared.phy.Medium.{Medium}
use Rattle.ip_address.specs.declared.protocol.IpVersion.TheVariants.{Ipv4, Ipv6}
use Rattle.ip_address.specs.Protocol.{number_of}
use Rattle.sockets.specs.Raw.{RawSocket}
use Rattle.host_machine.specs.Context.Host.{Host}
use Rattle.host_machine.specs.Context.Real.{IsRegular}
use Rattle.host_machine.specs.Interface.Run.{Transition, Run}
use Rattle.host_laws.specs.Network.{Runs, WereSentBySome}
use Rattle.host_laws.specs.RawArrivals.{raw_at}
use Rattle.host_laws.specs.RawPackets.{HasRaw, IsPartIf, SendsByRaw, tcp_at}

-- before a transition a host has no TCP socket, and no raw socket for hop-by-hop options; and if it gets a frame there,
-- it has raw sockets for TCP over both versions of IP
pub record SpeaksTcpByRaw (p : Transition) : Type 0 where
  pub no_socket : (i : ℕ) → tcp_at p.before.sockets i ≡ None
  pub no_options : (i : ℕ) (s : RawSocket) → raw_at p.before.sockets i ≡ Some s → number_of s.protocol ≢ 0
  pub taken : (handed_frames p.told ≡ []) ⊎ (HasRaw Ipv4 6 p.before.sockets × HasRaw Ipv6 6 p.before.sockets)

-- a host's run on a medium, in which it speaks TCP so, and gets frames of these hosts alone
pub record SendsTcpByRaw (hosts : List Host) (runs : Runs) (m : Medium) (first : Host)
    (ps : List Transition) : Type 0 where
  pub last : Host
  pub run : Run first ps last
  pub regular : IsRegular first
  pub one_medium : first.capabilities.medium ≡ m
  pub pending : AllByRecursion (IsPartIf 6) first.left
  pub only : AllByRecursion SpeaksTcpByRaw ps
  pub received : WereSentBySome hosts runs ps

-- If each of the hosts is one, only raw sockets speak TCP there: none of them sends a segment after hop-by-hop options,
-- so none gets one.
abbrev pub NetworksSpeakTcpByRaw : Type 0
NetworksSpeakTcpByRaw =
    (hosts : List Host) (runs : Runs) (m : Medium) →
    ((j : ℕ) (a : Host) → slice_get hosts j ≡ Some a → SendsTcpByRaw hosts runs m a (runs j)) →
    (j : ℕ) (a : Host) → slice_get hosts j ≡ Some a → SendsByRaw 6 m a (runs j)
