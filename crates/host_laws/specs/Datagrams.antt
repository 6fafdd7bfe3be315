-- What UDP sockets receive and send over runs: nothing invented, nothing twice, nothing changed.
use Rattle.std.specs.Prelude.{◌≡◌, ℕ, List, [], ◌∷◌, ◌++◌, Some}
use Rattle.std.specs.Option.{option_map}
use Rattle.std.specs.List.{AllByRecursion}
use Rattle.net_base.specs.Device.{handed_frames, sent_frames}
use Rattle.host_machine.specs.declared.command.Command.{Command}
use Rattle.host_machine.specs.declared.command.Command.TheVariants.{PollIngressSingle, PollEgress, Poll}
use Rattle.host_machine.specs.Context.Note.{slot_notes, cut_notes}
use Rattle.host_machine.specs.Context.Host.{Host, at, without_expired}
use Rattle.host_machine.specs.Interface.Polling.{after_maintenance}
use Rattle.host_machine.specs.Context.Real.{IsRegular}
use Rattle.host_laws.specs.Laws.Order.{IsAmong, IsBeginning}
use Rattle.host_machine.specs.Interface.Run.{Transition, Run, acts_in}
use Rattle.host_laws.specs.Laws.TwoHosts.{cuts}
use Rattle.sockets.specs.Udp.{UdpSocket}
use Rattle.host_laws.specs.Deliveries.{Delivery, Deliver, IsAccepted, to_index, udp_at, with_deliveries}
use Rattle.host_laws.specs.Senders.{NoSocketWritesUdp, CarryOnly}
use Rattle.host_laws.specs.Departures.{Departure, HasDeparted, cuts_of, entries, frames_of, from_index, without}

-- the host when a command receives or sends its first frame: at the command's moment, and maintained if it is a poll
abbrev pub host_at_command : Command → Host → Host
host_at_command (PollIngressSingle t) H = without_expired H t
host_at_command (PollEgress t) H = at H t
host_at_command (Poll t budget) H = after_maintenance (at H t)
host_at_command other H = H

-- What moves in a transition of a run. Each datagram that a socket gets arrived in a frame received there, at most one
-- in each, or was reassembled there when a fragment arrived, and the socket accepts it. What left a socket's queue was
-- sent there in a frame, or was fragmented there, in this order, or was dropped. Nothing else sent there carries UDP,
-- unless a raw socket sends it.
pub record MovesAt (p : Transition) (deliveries : List Delivery) (departures : List Departure) : Type 0 where
  pub came : Deliver (host_at_command p.command p.before) (handed_frames p.told) (slot_notes p.notes) deliveries
  pub heard : AllByRecursion (IsAccepted (host_at_command p.command p.before)) deliveries
  pub left : AllByRecursion (HasDeparted (host_at_command p.command p.before)) departures
  pub went : IsAmong (frames_of departures) (sent_frames p.told)
  pub cut : IsAmong (cuts_of departures) (cuts (cut_notes p.notes))
  -- and no other frame carries UDP
  pub only : IsRegular p.before → NoSocketWritesUdp p.before →
      CarryOnly p.before.capabilities.medium departures (sent_frames p.told) (cuts (cut_notes p.notes))

-- what moves in several transitions, one after another
pub data Move : List Transition → List Delivery → List Departure → Type 0 where
  Still : Move [] [] []
  OneTransition : {transitions : List Transition} {more_deliveries : List Delivery} {more_departures : List Departure}
      (p : Transition) (deliveries : List Delivery) (departures : List Departure) → MovesAt p deliveries departures →
      Move transitions more_deliveries more_departures →
      Move (p ∷ transitions) (deliveries ++ more_deliveries) (departures ++ more_departures)

-- the socket with what it got appended to its receive queue, as far as there was room, and without what
-- left its transmit queue
abbrev pub socket_after_run : List Delivery → List Departure → UdpSocket → UdpSocket
socket_after_run deliveries departures s = without departures (with_deliveries deliveries s)

-- What the UDP sockets of a host hold after these transitions is what they held, followed by what was delivered to
-- them, each as far as there was room, in this order; less what left the front of their transmit queues, in this order.
-- No socket is added or removed.
pub record KeepsQueues (first last : Host) (transitions : List Transition) : Type 0 where
  pub deliveries : List Delivery
  pub departures : List Departure
  pub moves : Move transitions deliveries departures
  pub fronts : (i : ℕ) (s : UdpSocket) →
      udp_at first.sockets i ≡ Some s → IsBeginning (entries (from_index i departures)) s.tx.packets
  pub queues : (i : ℕ) → udp_at last.sockets i
      ≡ option_map (socket_after_run (to_index i deliveries) (from_index i departures)) (udp_at first.sockets i)

-- between two turns of the owner of the sockets, over every run
abbrev pub RunsKeepQueues : Type 0
RunsKeepQueues = (first last : Host) (transitions : List Transition) →
    Run first transitions last → acts_in transitions ≡ [] → KeepsQueues first last transitions

-- a part of a run: the run up to it, the part itself, and the run after it
pub record Stretch (first last : Host) (before between after : List Transition) : Type 0 where
  pub from : Host
  pub to : Host
  pub run_before : Run first before from
  pub run_between : Run from between to
  pub run_after : Run to after last
  pub keeps : acts_in between ≡ [] → KeepsQueues from to between

-- that, in each part of a run
abbrev pub KeepsDatagrams : Host → Host → List Transition → Type 0
KeepsDatagrams first last transitions = (before between after : List Transition) →
    transitions ≡ before ++ (between ++ after) → Stretch first last before between after

-- that, for every run
abbrev pub RunsKeepDatagrams : Type 0
RunsKeepDatagrams = (first last : Host) (transitions : List Transition) →
    Run first transitions last → KeepsDatagrams first last transitions
