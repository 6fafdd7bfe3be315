-- What holds of the hosts of a network: each makes a run, and what its UDP sockets get was sent by one of them.
use Rattle.std.specs.Prelude.{◌≡◌, ℕ, List, [], Some, map}
use Rattle.std.specs.List.{AllByRecursion, slice_get}
use Rattle.host_machine.specs.declared.command.Answer.{Answer}
use Rattle.host_machine.specs.Context.Host.{Host}
use Rattle.host_machine.specs.Context.Real.{IsRegular}
use Rattle.host_laws.specs.Laws.Ran.{Laws}
use Rattle.host_laws.specs.Laws.TwoHosts.{WereSent}
use Rattle.host_machine.specs.Interface.Run.{Run}
use Rattle.host_laws.specs.Datagrams.{KeepsDatagrams}
use Rattle.host_laws.specs.PingsInRuns.{PingsReturn}
use Rattle.host_laws.specs.Progress.{ComeToRest}
use Rattle.host_laws.specs.EndToEnd.{GetWhatWasSent}
use Rattle.host_laws.specs.Network.{GetWhatSomeSent, WereSentBySome}
use Rattle.host_laws.specs.Senders.{NoSocketWritesUdp}
use Rattle.interface.specs.Stands.{StandsFor}
use Rattle.host.specs.declared.link.Host.{Host as Linked}
use Rattle.host.specs.Link.{End, Owns}
use Rattle.network.specs.Network.{AreClosed, Call, Move, Network, NetworkGoes, Stands, Went, transitions_of}

-- each host that an interface of the network stands for is regular
abbrev pub AreRegular : {O : Type 0} → Network (Linked O) → Type 0
AreRegular {O} n = (i : ℕ) (h : Linked O) (H : Host) →
    slice_get n.hosts i ≡ Some h → StandsFor h.interface h.sockets H → IsRegular H

-- the hosts of the ends
abbrev pub hosts_of : {O : Type 0} → Network (End O) → List Host
hosts_of a = map (λ e. e.host) a.hosts

-- nothing is kept, and no frame is queued in a device or was sent through it
pub record IsNew {O : Type 0} (n : Network (Linked O)) : Type 0 where
  pub wire : n.wire ≡ []
  pub queued : AllByRecursion (λ h. h.device.queued ≡ []) n.hosts
  pub sent : AllByRecursion (λ h. h.device.sent ≡ []) n.hosts

-- a host is on the medium of another, and no raw socket of it sends UDP
pub record MaySend (moves : List Move) (b a : Host) (j : ℕ) : Type 0 where
  pub one_medium : a.capabilities.medium ≡ b.capabilities.medium
  pub nobody : AllByRecursion (λ p. NoSocketWritesUdp p.before) (transitions_of moves j)

-- What holds of host i, which was this one at first. It made a run, which keeps the laws. If no frame comes from
-- outside, each frame that it received was sent by one of the hosts. If all may send to it besides, each datagram that
-- its UDP sockets get in a whole packet was sent by a UDP socket of one of them. If it received only frames of one host,
-- so was each datagram, in fragments too under the premises of two hosts.
pub record HostGoes {O : Type 0} (first last : Network (End O)) (calls : List Call) (moves : List Move)
    (i : ℕ) (b : Host) : Type 0 where
  pub last_host : Host
  pub there : slice_get (hosts_of last) i ≡ Some last_host
  pub run : Run b (transitions_of moves i) last_host
  pub laws : Laws b (transitions_of moves i)
  pub datagrams : KeepsDatagrams b last_host (transitions_of moves i)
  pub rest : ComeToRest (transitions_of moves i)
  pub received : AreClosed calls →
      WereSentBySome (hosts_of first) (transitions_of moves) (transitions_of moves i)
  pub gets : AreClosed calls →
      ((j : ℕ) (a : Host) → slice_get (hosts_of first) j ≡ Some a → MaySend moves b a j) →
      GetWhatSomeSent (hosts_of first) (transitions_of moves) (transitions_of moves i)
  pub gets_of_one : (j : ℕ) (a : Host) → slice_get (hosts_of first) j ≡ Some a → MaySend moves b a j →
      WereSent (transitions_of moves j) (transitions_of moves i) →
      GetWhatWasSent a b (transitions_of moves j) (transitions_of moves i)

-- what calls did, from ends that the hosts stood for; and that, of each host. Pings from one host to another come back,
-- if their frames are received
pub record NetworkRan {O : Type 0} (did : Owns O) (calls : List Call) (answers : List Answer)
    (new : Network (Linked O)) (a : Network (End O)) : Type 0 where
  pub went : Went did calls answers new a
  pub hosts : (i : ℕ) (b : Host) → slice_get (hosts_of a) i ≡ Some b → HostGoes a went.last calls went.moves i b
  pub pings : (i j : ℕ) (b c : Host) (at_i : slice_get (hosts_of a) i ≡ Some b)
      (at_j : slice_get (hosts_of a) j ≡ Some c) →
      PingsReturn (hosts i b at_i).laws.calls.calls.singles (hosts j c at_j).laws.calls.calls.singles

-- that, whatever is done with a network that was new
abbrev pub NetworksKeepLaws : {O : Type 0} → Owns O → Type 0
NetworksKeepLaws {O} did =
    (old new : Network (Linked O)) (calls : List Call) (answers : List Answer) →
    NetworkGoes did calls answers old new → IsNew old → AreRegular old →
    (a : Network (End O)) → Stands old a → NetworkRan did calls answers new a
