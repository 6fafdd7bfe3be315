-- A connection of which its program let go has its place for so long and no longer, whatever arrives.
use Rattle.std.specs.Prelude.{◌≡◌, ℕ, ◌<◌, ◌≤◌, true, List, [], ◌∷◌, get_or, Option, Some, None}
use Rattle.std.specs.List.{AllByRecursion}
use Rattle.tcp_machine.specs.Arrivals.{is_closed}
use Rattle.tcp_machine.specs.Instants.{later}
use Rattle.tcp_connection.specs.declared.segment.Segment.{Segment}
use Rattle.tcp_host.specs.declared.calls.Handle.{Handle}
use Rattle.tcp_host.specs.declared.iss.Endpoints.{Endpoints}
use Rattle.tcp_host.specs.declared.resets.Reply.{Reply}
use Rattle.tcp_host.specs.declared.slot.Owner.{Owner}
use Rattle.tcp_host.specs.declared.slot.Owner.TheVariants.{Itself}
use Rattle.tcp_host.specs.declared.turns.Turn.{Turn}
use Rattle.tcp_host.specs.Arrivals.{Receives}
use Rattle.tcp_host.specs.Handles.{is_named, released}
use Rattle.tcp_host.specs.Host.{Host, is_let_go, slot_at, connection_at}
use Rattle.tcp_host.specs.Turns.{TakesTurn, sent_if, postponed, aborted_if, time_for_a_reset}
use Rattle.tcp_host_laws.specs.Lives.{Event}
use Rattle.tcp_host_laws.specs.Calls.{Calls}

-- the connection at a place gets its turn at an instant; it is due again at one; or anything else is done
pub data Deed : Type 0 where
  Turned : (place now : ℕ) → Deed
  Again : (place instant : ℕ) → Deed
  Other : Deed

-- All that is done with a host: a program calls, a segment arrives, a connection gets its turn, or nothing is due; what a turn sends
-- was sent, or has no room until an instant; and a connection is aborted whose address is gone
pub data Is (old : Host) : Deed → Host → Type 0 where
  Called : (events : List Event) (new : Host) → Calls old events new → Is old Other new
  Received : (now : ℕ) (e : Endpoints) (s : Segment) (octets : List ℕ) (answer : Option Reply) (new : Host) →
      Receives now e s octets old answer new → Is old Other new
  Waited : (now : ℕ) (turn : Turn) (new : Host) (taken : TakesTurn now old turn new) → now < get_or old.alarms taken.place 0 → Is old Other new
  TookTurn : (place now : ℕ) (turn : Turn) (new : Host) (taken : TakesTurn now old turn new) → taken.place ≡ place →
      get_or old.alarms place 0 ≤ now → Is old (Turned place now) new
  Sent : (place now : ℕ) → Is old (Again place now) (sent_if place now old)
  Postponed : (place instant : ℕ) → Is old (Again place instant) (postponed place instant old)
  Aborted : (place : ℕ) → Is old Other (aborted_if place old)

abbrev pub owner_at : ℕ → Host → Owner
owner_at place h = (slot_at place h).owner

-- the place has a connection of which its program let go
abbrev pub IsHeld : ℕ → Host → Type 0
IsHeld place h = is_let_go (owner_at place h) ≡ true

-- and has it while one thing after another is done
pub data Held (place : ℕ) : Host → List Deed → Host → Type 0 where
  Ends : {h : Host} → IsHeld place h → Held place h [] h
  Goes : {old mid new : Host} {d : Deed} {ds : List Deed} → IsHeld place old → Is old d mid → Held place mid ds new →
      Held place old (d ∷ ds) new

-- no turn of the place
abbrev pub IsNoTurn : ℕ → Deed → Type 0
IsNoTurn place (Turned p now) = p ≡ place → ⊥
IsNoTurn place d = Unit {0}

-- a turn of the place is before an instant
abbrev pub IsBefore : (place instant : ℕ) → Deed → Type 0
IsBefore place instant (Turned p now) = p ≡ place → now < instant
IsBefore place instant d = Unit {0}

-- a turn of the place is no later, and it is due again no later
abbrev pub IsBy : (place instant : ℕ) → Deed → Type 0
IsBy place instant (Turned p now) = p ≡ place → now ≤ instant
IsBy place instant (Again p t) = p ≡ place → t ≤ instant
IsBy place instant Other = Unit {0}

-- when it has to have ended, if its first turn after that is at an instant; and when its place is free
abbrev pub limit : ℕ → Host → ℕ
limit now h = later now h.config.release_timeout

abbrev pub over : ℕ → Host → ℕ
over now h = later (limit now h) time_for_a_reset

pub record ReleasedPlacesEnd : Type 0 where
  -- A connection that is released is due at once
  pub lets_go : (handle : Handle) (h : Host) → is_named handle h ≡ true →
      (owner_at handle.place (released handle.place h) ≡ Itself None) × (get_or (released handle.place h).alarms handle.place 0 ≡ 0)
  -- Whatever is done before its first turn, it is due by an instant, unless it is put off beyond that
  pub waits : (place instant : ℕ) (old new : Host) (ds : List Deed) → owner_at place old ≡ Itself None → get_or old.alarms place 0 ≤ instant →
      Held place old ds new → AllByRecursion (IsNoTurn place) ds → AllByRecursion (IsBy place instant) ds →
      (owner_at place new ≡ Itself None) × (get_or new.alarms place 0 ≤ instant)
  -- From that turn on, whatever is done, it is due by its limit, or by any later instant beyond which it isn't put off. Until it is
  -- gone the place has its limit
  pub due : (place now instant : ℕ) (old new : Host) (ds : List Deed) → owner_at place old ≡ Itself None → Held place old (Turned place now ∷ ds) new →
      limit now old ≤ instant → AllByRecursion (IsBy place instant) (Turned place now ∷ ds) →
      (owner_at place new ≡ Itself (Some (limit now old))) × (get_or new.alarms place 0 ≤ instant)
  -- A turn at its limit, or later, aborts it
  pub aborts : (place now until : ℕ) (old new : Host) → owner_at place old ≡ Itself (Some until) → until ≤ now → Is old (Turned place now) new →
      IsHeld place new → is_closed (connection_at place new).state ≡ true
  -- and none that is a second after its limit, or later, leaves it its place
  pub ends : (place now : ℕ) (old new : Host) (ds : List Deed) → owner_at place old ≡ Itself None → Held place old (Turned place now ∷ ds) new →
      AllByRecursion (IsBefore place (over now old)) ds
