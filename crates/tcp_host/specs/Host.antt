-- A host of connections: its places, listeners and timers.
use Rattle.std.specs.Prelude.{◌≡◌, ◌<◌, ◌≤◌, ℕ, ◌+◌, ◌-◌, ◌%◌, ◌^◌, Bool, true, false, List, [], length, get_or, slice_set, Option, Some, None}
use Rattle.ip_address.specs.declared.ip.IpAddress.{IpAddress}
use Rattle.ip_address.specs.declared.ip.IpAddress.TheVariants.{Ipv4, Ipv6}
use Rattle.net_base.specs.declared.bucket.Bucket.{Bucket}
use Rattle.tcp_machine.specs.Connection.{Connection}
use Rattle.tcp_machine.specs.Opening.{opened}
use Rattle.tcp_machine.specs.declared.settings.Settings.{Settings}
use Rattle.tcp_host.specs.declared.iss.Endpoints.{Endpoints}
use Rattle.tcp_host.specs.Listener.{Listener, first}
use Rattle.tcp_host.specs.declared.slot.Slot.{Slot}
use Rattle.tcp_host.specs.declared.slot.Owner.{Owner}
use Rattle.tcp_host.specs.declared.slot.Owner.TheVariants.{Nobody, Program, Itself}
use Rattle.tcp_host.specs.declared.config.Config.{Config}
use Rattle.tcp_host.specs.Challenges.{all_challenges}
use Rattle.tcp_host.specs.Alarms.{IsLeast}

pub record Host : Type 0 where
  -- at each place a connection, the ends of it, when something is due, and until when the place is taken: 0 if it is free; the end
  -- of TIME-WAIT, if its program let go of the connection; and otherwise never
  pub slots : List Slot
  pub ends : List (Option Endpoints)
  pub alarms : List ℕ
  pub taken : List ℕ
  -- since when the program hasn't been told that the connection changed; never, if it is told
  pub news : List ℕ
  pub listeners : List Listener
  pub resets : Bucket
  pub config : Config

-- nothing is due
abbrev pub never : ℕ
never = 2 ^ 64 - 1

-- how many routers a packet may pass, unless the program says (RFC 9293 3.9.2)
abbrev pub default_hop_limit : ℕ
default_hop_limit = 64

unfoldable pub no_settings : Settings
no_settings = record {
  nagle = true;
  ack_delay = 0;
  keep_alive = None;
  timeout = None;
  shortest_timeout = 0;
  congestion_control = true;
  time_wait = 0;
  own_mss = 0;
  own_scale = 0;
}

-- what stands past the last place
unfoldable pub no_slot : Slot
no_slot = record {
  connection = opened 0 0 0 0 0 no_settings;
  owner = Nobody;
  generation = 0;
  challenges = all_challenges;
  hop_limit = default_hop_limit;
  reported = None;
}

abbrev pub slot_at : ℕ → Host → Slot
slot_at place h = get_or h.slots place no_slot

abbrev pub connection_at : ℕ → Host → Connection
connection_at place h = (slot_at place h).connection

abbrev pub with_slot : ℕ → Slot → Host → Host
with_slot place s h = record h { slots = slice_set h.slots place s }

abbrev pub with_connection : ℕ → Connection → Host → Host
with_connection place c h = with_slot place (record (slot_at place h) { connection = c }) h

abbrev pub with_owner : ℕ → Owner → Host → Host
with_owner place o h = with_slot place (record (slot_at place h) { owner = o }) h

abbrev pub with_alarm : ℕ → ℕ → Host → Host
with_alarm place instant h = record h { alarms = slice_set h.alarms place instant }

-- a program has the connection
abbrev pub is_program : Owner → Bool
is_program Program = true
is_program o = false

-- its program let go of a connection, which ends by itself
abbrev pub is_let_go : Owner → Bool
is_let_go (Itself until) = true
is_let_go o = false

-- and when it has to have ended
abbrev pub limit_of : Owner → Option ℕ
limit_of (Itself until) = until
limit_of o = None

-- the place is free
abbrev pub vacated : ℕ → Host → Host
vacated place h = record h {
  slots = slice_set h.slots place (record (slot_at place h) { owner = Nobody });
  ends = slice_set h.ends place None;
  alarms = slice_set h.alarms place never;
  taken = slice_set h.taken place 0;
}

-- a place has these ends, something is due there at once, and nothing is new
abbrev pub enrolled : ℕ → Endpoints → Host → Host
enrolled place e h = record h {
  ends = slice_set (slice_set h.ends place None) place (Some e);
  alarms = slice_set h.alarms place 0;
  taken = slice_set h.taken place never;
  news = slice_set h.news place never;
}

-- a connection with these ends begins at the place, of the next generation
abbrev pub occupied : ℕ → Endpoints → Owner → Connection → Host → Host
occupied place e owner c h =
    enrolled place e
    (with_slot place (record {
      connection = c;
      owner = owner;
      generation = ((slot_at place h).generation + 1) % 2 ^ 64;
      challenges = all_challenges;
      hop_limit = default_hop_limit;
      reported = None;
    }) h)

-- what is said of the family of an address: the MSS of a peer that tells none (RFC 9293 3.7.1), and the most octets of a segment
abbrev pub default_mss : IpAddress → ℕ
default_mss (Ipv4 a) = 536
default_mss (Ipv6 a) = 1220

abbrev pub link_mss : Config → IpAddress → ℕ
link_mss c (Ipv4 a) = c.mss_v4
link_mss c (Ipv6 a) = c.mss_v6

abbrev pub settings_for : Config → IpAddress → Settings
settings_for c address = record c.settings { own_mss = link_mss c address }

-- a peer that asked for a connection is asked whether it is still there (RFC 9293 3.8.4)
abbrev pub accepted_settings_for : Config → IpAddress → Settings
accepted_settings_for c address = record (settings_for c address) { keep_alive = c.accepted_keep_alive }

-- The place that the next connection gets: a free one, or else the one whose TIME-WAIT ends first. None, only if each has a connection
-- that gives way to no other one
abbrev pub IsNextPlace : Host → Option ℕ → Type 0
IsNextPlace h (Some place) = (place < length h.taken) × IsLeast h.taken (get_or h.taken place 0) × (get_or h.taken place 0 < never)
IsNextPlace h None = (place : ℕ) → place < length h.taken → never ≤ get_or h.taken place 0

-- listeners by their index
unfoldable pub no_listener : Listener
no_listener = first 0 None 0

abbrev pub listener_at : ℕ → Host → Listener
listener_at index h = get_or h.listeners index no_listener

abbrev pub with_listener : ℕ → Listener → Host → Host
with_listener index l h = record h { listeners = slice_set h.listeners index l }
