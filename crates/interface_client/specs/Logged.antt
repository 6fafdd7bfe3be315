-- What the list of a tracer's events has of a run.
use Rattle.std.specs.Prelude.{◌≡◌, ℕ, pos, List, [], option_map}
use Rattle.std.specs.List.{AllByRecursion}
use Rattle.net_base.specs.Device.{Event, sent_frames}
use Rattle.host_machine.specs.Context.Host.{Host}
use Rattle.host_laws.specs.Laws.Order.{IsAmong}
use Rattle.host_laws.specs.Laws.Requests.{NoSocketSpeaks, requests_at, sent_at}
use Rattle.host_machine.specs.Interface.Run.{Transition, Run, AreSpaced, acts_in, events_in}
use Rattle.host_laws.specs.Deliveries.{Delivery, to_index, udp_at}
use Rattle.host_laws.specs.Departures.{Departure, frames_of, from_index}
use Rattle.host_laws.specs.Datagrams.{Move, socket_after_run}

-- the UDP sockets hold what they held and what was delivered to them, less what left them; and what left them, and
-- wasn't dropped, is in frames that were sent, in order
pub record LogsDatagrams (first last : Host) (transitions : List Transition) (events : List Event) : Type 0 where
  pub deliveries : List Delivery
  pub departures : List Departure
  pub moves : Move transitions deliveries departures
  pub queues : (i : ℕ) → udp_at last.sockets i
      ≡ option_map (socket_after_run (to_index i deliveries) (from_index i departures)) (udp_at first.sockets i)
  pub sent : IsAmong (frames_of departures) (sent_frames events)

-- the list has the events of a run, and no others; so the laws of runs are laws of the frames in the list
pub record LogsRun (first : Host) (after : Host → Type 0) (events : List Event) : Type 0 where
  pub transitions : List Transition
  pub last : Host
  pub run : Run first transitions last
  pub stands : after last
  pub logged : events ≡ events_in transitions
  -- the requests for hardware addresses in the list are a second apart, unless a raw socket sends ICMPv6
  pub spaced : AllByRecursion (λ p. NoSocketSpeaks p.before) transitions →
      AreSpaced first.neighbors.silent_until (requests_at first.capabilities.medium (sent_at (pos 0) events))
  -- the datagrams of UDP sockets are in its frames, if the owner of the sockets did nothing meanwhile
  pub datagrams : acts_in transitions ≡ [] → LogsDatagrams first last transitions events
