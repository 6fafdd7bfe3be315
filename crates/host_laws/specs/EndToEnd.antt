-- From socket to socket, if one host receives only frames that another sent: what a UDP socket of one gets was sent by
-- a UDP socket of the other.
use Rattle.std.specs.Prelude.{◌≡◌, ℕ, List, [], Some, None}
use Rattle.std.specs.List.{AllByRecursion, Contains}
use Rattle.fragmentation.specs.Slots.{slot_of}
use Rattle.fragmentation.specs.Reassembly.{SlotNote}
use Rattle.net_base.specs.Device.{sent_frames}
use Rattle.host_machine.specs.Context.Host.{Host}
use Rattle.host_laws.specs.Laws.Order.{IsAmong, IsBeginning}
use Rattle.host_machine.specs.Context.Real.{IsReal, IsRegular}
use Rattle.host_machine.specs.Interface.Run.{Transition, Run}
use Rattle.host_laws.specs.Laws.TwoHosts.{HaveOwnKeys, WereSent, cuts_in, key_of_cut}
use Rattle.sockets.specs.Udp.{UdpSocket}
use Rattle.host_laws.specs.Deliveries.{Delivery, Deliver, NoFrame, OneGets}
use Rattle.host_laws.specs.Deliveries.{NoSocketGets, BringsUdp, AtOnce, InFragments, udp_at}
use Rattle.host_laws.specs.Departures.{Departure, Dropped, HasDeparted, departs_from, entries, frames_of, from_index}
use Rattle.host_laws.specs.Senders.{NoSocketWritesUdp}
use Rattle.host_laws.specs.Datagrams.{MovesAt, host_at_command}

-- Datagrams left UDP sockets in a transition: they were at the fronts of the sockets' transmit queues before it, and
-- those that weren't dropped are in frames sent there, whole or as a first fragment, in this order.
pub record LeaveQueues (p : Transition) (departures : List Departure) : Type 0 where
  pub fronts : (i : ℕ) (s : UdpSocket) →
      udp_at p.before.sockets i ≡ Some s → IsBeginning (entries (from_index i departures)) s.tx.packets
  pub frames : IsAmong (frames_of departures) (sent_frames p.told)

-- A datagram was sent in a transition of a run. There it left the transmit queue of a UDP socket, with its destination
-- and its payload, and was sent in a packet with its source.
pub record WasSentAt (p : Transition) (d : Delivery) : Type 0 where
  pub departures : List Departure
  pub leave : LeaveQueues p departures
  pub departure : Departure
  pub is_one : Contains departures departure
  pub left : HasDeparted (host_at_command p.command p.before) departure
  pub went : departure.way ≡ Dropped → ⊥
  pub destination : departure.destination ≡ d.destination
  pub payload : departure.payload ≡ d.payload
  pub address : departs_from (host_at_command p.command p.before) left.socket departure ≡ Some d.source.addr
  pub port : left.socket.endpoint.port ≡ d.source.port

-- that, in some transition of the run
abbrev pub WasSent : List Transition → Delivery → Type 0
WasSent ps d = (p : Transition) × Contains ps p × WasSentAt p d

-- The premises of the law about reassembly: the sender had no pending fragment when the run began, and fragments no two
-- packets under one key; and the receiver had no slot with such a key.
pub record MayRebuild (a b : Host) (ps : List Transition) : Type 0 where
  pub left : a.left ≡ []
  pub own : HaveOwnKeys (cuts_in ps)
  pub free : AllByRecursion (λ d. slot_of b.slots (key_of_cut d) ≡ None) (cuts_in ps)

-- a datagram that arrived in one packet was sent; one that arrived in fragments was, if what is reassembled is what was
-- fragmented
abbrev pub WasSentSo : Type 0 → List Transition → Delivery →
    {H : Host} {frame : List ℕ} {noted : List SlotNote} {r : _} {octets : List ℕ} →
    BringsUdp H frame noted r octets → Type 0
WasSentSo Trusted ps d (AtOnce brings) = WasSent ps d
WasSentSo Trusted ps d (InFragments packet earlier carried ipv4 source part next last is) = Trusted → WasSent ps d

-- each of those received, by how it arrived
abbrev pub WereSentSo : Type 0 → List Transition →
    {H : Host} {frames : List (List ℕ)} {noted : List SlotNote} {ds : List Delivery} →
    Deliver H frames noted ds → Type 0
WereSentSo Trusted ps NoFrame = Unit {0}
WereSentSo Trusted ps (OneGets frame own d gets rest) = WasSentSo Trusted ps d gets.brought × WereSentSo Trusted ps rest
WereSentSo Trusted ps (NoSocketGets frame own rest) = WereSentSo Trusted ps rest

-- whatever moves in the transitions of one run, what its sockets get was sent in another
abbrev pub GetWhatWasSent : Host → Host → List Transition → List Transition → Type 0
GetWhatWasSent a b ps qs =
    AllByRecursion
    (λ q. (deliveries : List Delivery) (departures : List Departure) (moves : MovesAt q deliveries departures) →
    WereSentSo (MayRebuild a b ps) ps moves.came) qs

-- If a host receives only frames that another host on its medium sent, each datagram that one of its UDP sockets gets
-- was sent by a UDP socket of the other host. No raw socket of the other host sends UDP.
abbrev pub RunsGetWhatWasSent : Type 0
RunsGetWhatWasSent =
    (a a' b b' : Host) (ps qs : List Transition) → Run a ps a' → Run b qs b' → IsRegular a → IsReal b →
    b.capabilities.medium ≡ a.capabilities.medium →
    AllByRecursion (λ p. NoSocketWritesUdp p.before) ps → WereSent ps qs → GetWhatWasSent a b ps qs
