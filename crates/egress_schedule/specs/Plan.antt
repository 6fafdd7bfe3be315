-- What is kept from one round to the next beside a set of sockets: for each socket whom it waits for,
-- and whose turn it is.
use Rattle.std.specs.Prelude.{ℕ, ℤ, zero, suc, ◌+◌, ◌-◌, nat_lt, Bool, false, is_some, List, get_or}
use Rattle.std.specs.Prelude.{slice_set, replicate, Option, None, if◌then◌else◌}
use Rattle.ip_address.specs.declared.ip.IpAddress.{IpAddress}
use Rattle.socket_set.specs.SocketSet.{Sockets, wait_of}
use Rattle.egress_schedule.specs.declared.watch.Waiting.{Waiting}
use Rattle.egress_schedule.specs.declared.watch.Watch.{Watch}

-- how long a packet waits for a neighbour, in microseconds, 0 for ever; a watch for each socket, and for how many of
-- them memory is reserved; from which index on the next socket may ask for its neighbour, and the next may send a long
-- packet; when a socket last asked for its neighbour; how many packets were given up; whether some socket waits; and
-- whether some packet may be long
pub record Plan : Type 0 where
  pub patience : ℕ
  pub watches : List Watch
  pub room : ℕ
  pub discovery_turn : ℕ
  pub fragment_turn : ℕ
  pub asked : Option ℤ
  pub given_up : ℕ
  pub is_waiting : Bool
  pub may_have_long : Bool

-- of a socket that doesn't wait nothing is written down
abbrev pub idle : Watch
idle = record { waiting = None; unreachable = None; given_up = None; dropped = None; set_aside = None }

-- the plan with another watch at an index
abbrev pub with_watch : ℕ → Watch → Plan → Plan
with_watch i w plan = record plan { watches = slice_set plan.watches i w }

-- the destination that the socket at an index gave up last, until that is told
abbrev pub given_up_at : ℕ → Plan → Option IpAddress
given_up_at i plan = (get_or plan.watches i idle).given_up

-- the plan in which that is told
abbrev pub without_given_up : ℕ → Plan → Plan
without_given_up i plan = with_watch i (record (get_or plan.watches i idle) { given_up = None }) plan

-- that of so many sockets, none of which waits, with this room
abbrev pub first_plan : ℕ → ℕ → ℕ → Plan
first_plan patience sockets room = record {
  patience = patience;
  watches = replicate sockets idle;
  room = room;
  discovery_turn = 0;
  fragment_turn = 0;
  asked = None;
  given_up = 0;
  is_waiting = false;
  may_have_long = false;
}

-- a plan with its sockets
pub record Planned (L : Type 0) : Type 0 where
  pub plan : Plan
  pub sockets : Sockets L

module _ {L : Type 0} where
  abbrev pub planned : Plan → Sockets L → Planned L
  planned plan sockets = record { plan = plan; sockets = sockets }

  abbrev pub watch_at : ℕ → Planned L → Watch
  watch_at i r = get_or r.plan.watches i idle

  -- for whom the socket at an index waits, as far as it still does
  abbrev pub waiting_at : ℕ → Planned L → Option Waiting
  waiting_at i r = if is_some (wait_of r.sockets i) then (watch_at i r).waiting else None

-- the same for each of the first n indices, one after the other
abbrev pub each_of : {A : Type 0} → (ℕ → A → A) → ℕ → A → A
each_of step zero a = a
each_of step (suc n) a = step n (each_of step n a)

-- the first of so many indices from one on that has a property, or the index behind them
abbrev pub first_from : (ℕ → Bool) → ℕ → ℕ → ℕ
first_from p from zero = from
first_from p from (suc n) = if p from then from else first_from p (suc from) n

-- the first of n indices from the turn on that has a property, else the first of all; n where none has it
abbrev pub next_in_turn : (ℕ → Bool) → ℕ → ℕ → ℕ
next_in_turn p turn n =
    let next = first_from p turn (n - turn) in
    if nat_lt next n then next else first_from p 0 n

-- the turn after the one of n that had it; where none had it, it stays
abbrev pub turn_after : ℕ → ℕ → ℕ → ℕ
turn_after n turn had = if nat_lt had n then had + 1 else turn
