-- Frames that are taken and handed over, and the instant of the next poll.
use Rattle.std.specs.Prelude.{ℕ, ℤ, ◌≡◌, ◌≢◌, ◌||◌, pos, Bool, true, not, List, [], length, take, drop, Option, Some, None, if◌then◌else◌}
use Rattle.std.specs.Borrow.{Bor}
use Rattle.fragmentation.specs.Details.Pending.{is_nil}
use Rattle.guard.specs.Watch as guard
use Rattle.guard.specs.declared.watch.Watch.{Watch}
use Rattle.egress_schedule.specs.Plan.{Planned}
use Rattle.egress_schedule.specs.Rounds.{after_round, before_round}
use Rattle.socket_set.specs.SocketSet.{Sockets}
use Rattle.interface.specs.Stands as interfaces
use Rattle.interface.specs.Stands.{host_with}
use Rattle.interface.specs.declared.interface.Interface.{Interface}
use Rattle.host_machine.specs.declared.results.PollResult.{PollResult}
use Rattle.host_machine.specs.Interface.Due.{Due, IsLeast}
use Rattle.host_machine.specs.Context.Host.{Host as Machine, at, no_sockets}
use Rattle.host_machine.specs.Interface.Ingress.{answer_to}
use Rattle.host_machine.specs.Interface.Polling.{Polls, is_changed, may_change}
use Rattle.net_base.specs.Device.{Frame}
use Rattle.interface.specs.Details.Refines.{HostRefinesTelling}
use Rattle.interface.specs.Details.Receives.{HostRefinesReceiving}
use Rattle.iface_host.specs.Counters.{after_handing, after_taking}
use Rattle.iface_host.specs.Known.{knows_at}
use Rattle.iface_host.specs.Outbox.{HandsFirst, Tells, Waiting, with_room}
use Rattle.iface_host.specs.Stands.{StandsFor}
use Rattle.iface_host.specs.declared.host.IfaceHost.{IfaceHost}

-- a frame, if there is one, of so many octets was written to the front of a buffer
abbrev pub IsWritten : Option (List ℕ) → ℕ → List ℕ → List ℕ → Type 0
IsWritten None n before after = (n ≡ 0) × (after ≡ before)
IsWritten (Some frame) n before after = (n ≡ length frame) × (take n after ≡ frame) × (drop n after ≡ drop n before)

-- what a guard lets go of a frame in response to one of so many octets, of a known neighbour or not, if there is one; and what it keeps
-- afterwards
abbrev pub let_go : ℤ → Option (List ℕ) → (answered : ℕ) → (known : Bool) → Watch → Option (List ℕ)
let_go t None answered known w = None
let_go t (Some frame) answered known w = if guard.lets_go t frame answered known w then Some frame else None

abbrev pub after_response : ℤ → Option (List ℕ) → (answered : ℕ) → (known : Bool) → Watch → Watch
after_response t None answered known w = w
after_response t (Some frame) answered known w = guard.after_response t frame answered known w

-- the machine takes a frame, of a known neighbour or not, and the frame that it sends, if there is one and the guard lets it go, is written; both are
-- counted, and sockets may have changed where the machine's answer says so
pub record Takes (t : ℤ) (frame : List ℕ) (known : Bool) (n : ℕ) (before after : List ℕ) (old new : IfaceHost) : Type 0 where
  pub shown : Option (List ℕ)
  pub written : IsWritten (let_go t shown (length frame) known old.watch) n before after
  pub received : HostRefinesReceiving t frame shown (StandsFor old) (StandsFor new)
  pub rest : new ≡ record old {
    interface = new.interface;
    sockets = new.sockets;
    changed = old.changed || may_change (answer_to (Frame frame));
    frames = after_handing n (after_taking old.frames);
    watch = after_response t shown (length frame) known old.watch;
  }

-- what is kept of the sockets, and these
abbrev pub planned : IfaceHost → Planned (Bor (Unit {0}))
planned host = record { plan = host.schedule; sockets = host.sockets }

-- whether a piece of a packet that was cut is left
abbrev pub is_piece_left : IfaceHost → Bool
is_piece_left host = not (is_nil (host_with host.interface.value no_sockets).left)

-- the machine polls, by one call of each kind: the first frame that it sends is written to the front of a buffer, and the
-- others wait
pub record PollsInto (t : ℤ) (answer : PollResult) (n : ℕ) (before after : List ℕ) (outbox outbox' : Waiting)
    (interface interface' : Interface) (sockets sockets' : Sockets (Bor (Unit {0}))) : Type 0 where
  pub handed : Option (List ℕ)
  pub went : HostRefinesTelling (Tells handed) outbox outbox' (Polls t 1 answer)
      (interfaces.StandsFor interface sockets) (interfaces.StandsFor interface' sockets')
  pub written : IsWritten handed n before after

-- a poll with room for one frame reserved, over the sockets as they are before the round; its first frame is counted, and
-- sockets may have changed where its answer says so
pub record Round (t : ℤ) (n : ℕ) (before after : List ℕ) (old new : IfaceHost) : Type 0 where
  pub prepared : Planned (Bor (Unit {0}))
  pub polled : Sockets (Bor (Unit {0}))
  pub answer : PollResult
  pub is_prepared : prepared ≡ before_round (knows_at old.interface.value) t old.ip_mtu (is_piece_left old) (planned old)
  pub polls : PollsInto t answer n before after (with_room true old.outbox) new.outbox
      old.interface.value new.interface.value prepared.sockets polled
  pub ended : planned new ≡ after_round t (record { plan = prepared.plan; sockets = polled })
  pub rest : new ≡ record old {
    interface = new.interface;
    sockets = new.sockets;
    outbox = new.outbox;
    schedule = new.schedule;
    changed = old.changed || is_changed answer;
    frames = after_handing n old.frames;
  }

-- the first frame that waits is handed over, and counted
pub record HandsOver (n : ℕ) (before after : List ℕ) (old new : IfaceHost) : Type 0 where
  pub first : HandsFirst old.outbox n before after new.outbox
  pub rest : new ≡ record old { outbox = new.outbox; frames = after_handing n old.frames }

-- the first frame that waits is handed over; where none waits, that of a round
pub data Gives (t : ℤ) (n : ℕ) (before after : List ℕ) (old new : IfaceHost) : Type 0 where
  Waited : old.outbox.frames ≢ [] → HandsOver n before after old new → Gives t n before after old new
  Made : old.outbox.frames ≡ [] → Round t n before after old new → Gives t n before after old new

-- the least instant at which something of the machine is due, at the moment that is set; 0 where a frame waits
pub record IsDue (t : ℤ) (due : Option ℤ) (old new : IfaceHost) : Type 0 where
  pub led : (H : Machine) → StandsFor old H → StandsFor new (at H t)
  pub least : old.outbox.frames ≡ [] → (H : Machine) → StandsFor old H → IsLeast (Due (at H t)) due
  pub at_once : old.outbox.frames ≢ [] → due ≡ Some (pos 0)
  pub rest : new ≡ record old { interface = new.interface }
