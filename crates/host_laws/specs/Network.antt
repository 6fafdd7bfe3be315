-- Several hosts on one medium, each of which may get frames of any: what a UDP socket of one gets was sent by a UDP
-- socket of one of them.
use Rattle.std.specs.Prelude.{◌≡◌, ℕ, List, Some}
use Rattle.std.specs.List.{AllByRecursion, Contains, slice_get}
use Rattle.net_base.specs.Device.{handed_frames, sent_frames}
use Rattle.net_base.specs.declared.phy.Medium.{Medium}
use Rattle.ip_address.specs.declared.ip.IpAddress.{IpAddress}
use Rattle.fragmentation.specs.Reassembly.{SlotNote}
use Rattle.host_machine.specs.Context.Host.{Host}
use Rattle.host_machine.specs.Context.Real.{IsReal, IsRegular}
use Rattle.host_machine.specs.Interface.Run.{Transition, Run, events_in}
use Rattle.host_laws.specs.Deliveries.{Delivery, Deliver, NoFrame, OneGets, NoSocketGets}
use Rattle.host_laws.specs.Deliveries.{BringsUdp, AtOnce, InFragments}
use Rattle.host_laws.specs.Departures.{Departure}
use Rattle.host_laws.specs.Senders.{NoSocketWritesUdp}
use Rattle.host_laws.specs.Datagrams.{MovesAt}
use Rattle.host_laws.specs.EndToEnd.{WasSent}

-- the transitions of each host, by its number from 0
abbrev pub Runs : Type 0
Runs = ℕ → List Transition

-- there is a host of this number
abbrev pub IsHost : List Host → ℕ → Type 0
IsHost hosts j = (a : Host) × (slice_get hosts j ≡ Some a)

-- a frame was sent by one of the hosts
pub record SentBySome (hosts : List Host) (runs : Runs) (frame : List ℕ) : Type 0 where
  pub sender : ℕ
  pub is_host : IsHost hosts sender
  pub sent : Contains (sent_frames (events_in (runs sender))) frame

-- each frame that is received in a run was sent by one of the hosts
abbrev pub WereSentBySome : List Host → Runs → List Transition → Type 0
WereSentBySome hosts runs qs = AllByRecursion (SentBySome hosts runs) (handed_frames (events_in qs))

-- no other host's UDP socket sends from this address
abbrev pub IsOnlySenderFrom : List Host → Runs → IpAddress → ℕ → Type 0
IsOnlySenderFrom hosts runs address j =
    (k : ℕ) (d : Delivery) → IsHost hosts k → WasSent (runs k) d → d.source.addr ≡ address → k ≡ j

-- A datagram was sent by a UDP socket of one of the hosts; and if no other host sends from its source address than one,
-- by that one's.
pub record WasSentBySome (hosts : List Host) (runs : Runs) (d : Delivery) : Type 0 where
  pub sender : ℕ
  pub is_host : IsHost hosts sender
  pub sent : WasSent (runs sender) d
  pub by_owner : (j : ℕ) → IsOnlySenderFrom hosts runs d.source.addr j → WasSent (runs j) d

-- a datagram that arrived in one packet was sent; of one that arrived in fragments nothing is said
abbrev pub WasSentWhole : List Host → Runs → Delivery →
    {H : Host} {frame : List ℕ} {noted : List SlotNote} {r : _} {octets : List ℕ} →
    BringsUdp H frame noted r octets → Type 0
WasSentWhole hosts runs d (AtOnce brings) = WasSentBySome hosts runs d
WasSentWhole hosts runs d (InFragments packet earlier carried ipv4 source part next last is) = Unit {0}

-- each of those received, by how it arrived
abbrev pub WereSentWhole : List Host → Runs →
    {H : Host} {frames : List (List ℕ)} {noted : List SlotNote} {ds : List Delivery} →
    Deliver H frames noted ds → Type 0
WereSentWhole hosts runs NoFrame = Unit {0}
WereSentWhole hosts runs (OneGets frame own d gets rest) =
    WasSentWhole hosts runs d gets.brought × WereSentWhole hosts runs rest
WereSentWhole hosts runs (NoSocketGets frame own rest) = WereSentWhole hosts runs rest

-- whatever moves in the transitions of a run, what its sockets get in whole packets was sent by one of the hosts
abbrev pub GetWhatSomeSent : List Host → Runs → List Transition → Type 0
GetWhatSomeSent hosts runs qs =
    AllByRecursion
    (λ q. (deliveries : List Delivery) (departures : List Departure) (moves : MovesAt q deliveries departures) →
    WereSentWhole hosts runs moves.came) qs

-- a host's run on a medium, in which no raw socket sends UDP
pub record SendsBySockets (m : Medium) (first : Host) (ps : List Transition) : Type 0 where
  pub last : Host
  pub run : Run first ps last
  pub regular : IsRegular first
  pub one_medium : first.capabilities.medium ≡ m
  pub nobody : AllByRecursion (λ p. NoSocketWritesUdp p.before) ps

-- If a host receives only frames that hosts on its medium sent, each datagram that one of its UDP sockets gets in a
-- whole packet was sent by a UDP socket of one of them. No raw socket of these hosts sends UDP.
abbrev pub RunsGetWhatSomeSent : Type 0
RunsGetWhatSomeSent =
    (hosts : List Host) (runs : Runs) (b b' : Host) (qs : List Transition) → Run b qs b' → IsReal b →
    ((j : ℕ) (a : Host) → slice_get hosts j ≡ Some a → SendsBySockets b.capabilities.medium a (runs j)) →
    WereSentBySome hosts runs qs → GetWhatSomeSent hosts runs qs
