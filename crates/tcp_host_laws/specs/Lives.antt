-- Lives of connections: what the connections of a host did, each from where it began.
use Rattle.std.specs.Prelude.{◌≡◌, ℕ, ◌<◌, ◌==◌, Bool, false, List, [], ◌∷◌, ◌++◌, length, Option, Some, None, is_some, if◌then◌else◌}
use Rattle.tcp_host.specs.declared.iss.Endpoints.{Endpoints}
use Rattle.tcp_host.specs.Table.{ends_at}
use Rattle.tcp_host.specs.Host.{Host, no_settings, connection_at}
use Rattle.tcp_laws.specs.Machines.{Side, unopened, Act, Accepts, after_act}

-- A connection's life: the place where it began, its ends, its own initial number, how many octets it may hold that
-- aren't acknowledged, and that aren't read, whether the acknowledgement of a cookie began it (RFC 4987 3.6), and what it did, in order.
-- One whose SYN was answered by a cookie has no place: its number is that of none.
pub record Life : Type 0 where
  pub place : ℕ
  pub ends : Endpoints
  pub number : ℕ
  pub room : ℕ
  pub size : ℕ
  pub is_of_cookie : Bool
  pub acts : List Act

abbrev pub after_acts : ℕ → List Act → Side → Side
after_acts number [] x = x
after_acts number (act ∷ acts) x = after_acts number acts (after_act number act x)

-- its connection, all that it sent, and the octets that its program wrote and read
abbrev pub side_of : Life → Side
side_of l = after_acts l.number l.acts (unopened l.room l.size no_settings)

-- what happens: the connection at a place does something, or one begins there between these ends
pub data Event : Type 0 where
  Does : (place : ℕ) → Act → Event
  Begins : (place : ℕ) → Endpoints → (number room size : ℕ) → Act → Event

-- the lives at a host, the newest one first: that of a place's connection is the first one of its place
abbrev pub newest : ℕ → List Life → Option Life
newest place [] = None
newest place (l ∷ ls) = if l.place == place then Some l else newest place ls

abbrev pub with_act : Act → Life → Life
with_act act l = record l { acts = l.acts ++ act ∷ [] }

abbrev pub continued : ℕ → Act → List Life → List Life
continued place act [] = []
continued place act (l ∷ ls) = if l.place == place then with_act act l ∷ ls else l ∷ continued place act ls

-- the SYN that an acknowledgement tells is known by having that acknowledgement, which no other one has
abbrev pub begins_by_cookie : Act → Bool
begins_by_cookie (Accepts now default link settings k options) = is_some k.segment.ack
begins_by_cookie act = false

abbrev pub begun : (place : ℕ) → Endpoints → (number room size : ℕ) → Act → Life
begun place e number room size act =
    record {
      place = place;
      ends = e;
      number = number;
      room = room;
      size = size;
      is_of_cookie = begins_by_cookie act;
      acts = act ∷ [];
    }

abbrev pub after_event : Event → List Life → List Life
after_event (Does place act) ls = continued place act ls
after_event (Begins place e number room size act) ls = begun place e number room size act ∷ ls

abbrev pub after_events : List Event → List Life → List Life
after_events [] ls = ls
after_events (e ∷ es) ls = after_events es (after_event e ls)

-- the life between these ends at a place
pub record IsLifeOf (place : ℕ) (e : Endpoints) (ls : List Life) (l : Life) : Type 0 where
  pub is : newest place ls ≡ Some l
  pub ends : l.ends ≡ e

-- The lives tell of a host's connections: the connection at a place is as its life left it, and where a connection has
-- ends its life is known.
pub record Tells (ls : List Life) (h : Host) : Type 0 where
  pub connection : (place : ℕ) (l : Life) → place < length h.slots → newest place ls ≡ Some l →
      (side_of l).connection ≡ connection_at place h
  pub ends : (place : ℕ) (e : Endpoints) → ends_at h.ends place ≡ Some e → (l : Life) × IsLifeOf place e ls l
