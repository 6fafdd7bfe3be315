-- The guard in front of a host, as C sets it and what C reads of it.
use Rattle.std.specs.Prelude.{ℕ, ℤ, ◌≡◌, List, Option, None, Some}
use Rattle.net_base.specs.declared.bucket.Bucket.{Bucket}
use Rattle.guard.specs.declared.watch.Conflict.{Conflict}
use Rattle.guard.specs.declared.watch.Watch.{Watch}
use Rattle.guard.specs.Pins.{no_pins}
use Rattle.guard.specs.Watch.{no_drops}
use Rattle.iface_host.specs.declared.host.IfaceHost.{IfaceHost}
use Rattle.iface_c.specs.Properties.{holds_in}
use Rattle.iface_c.specs.declared.guarding.IfaceDrops.{IfaceDrops}
use Rattle.iface_c.specs.declared.guarding.IfaceGuard.{IfaceGuard}
use Rattle.iface_c.specs.declared.guarding.IfaceRate.{IfaceRate}

-- a full bucket by a rate
abbrev pub bucket_in : IfaceRate → Bucket
bucket_in r = record { interval = r.interval; depth = r.at_once; full_at = 0 }

-- a guard by these rules, that has noted nothing
abbrev pub watch_in : IfaceGuard → Watch
watch_in c = record {
  is_on = holds_in c.on;
  guard = record {
    keeps_own_addresses = holds_in c.own_addresses;
    drops_fragments = holds_in c.fragments;
    drops_loops = holds_in c.loops;
    echo_requests = bucket_in c.echo_requests;
    strangers_stay = c.strangers_stay;
    takes_turns = holds_in c.turns;
    keeps_reports = holds_in c.reports;
    keeps_neighbors = holds_in c.routers;
    keeps_slots = holds_in c.slots;
    pins = no_pins;
    asked = None;
  };
  answers = record {
    errors = bucket_in c.errors;
    known_errors = bucket_in c.errors;
    resets = bucket_in c.resets;
    known_resets = bucket_in c.resets;
    longest_error = c.longest_error;
  };
  counts = no_drops;
  conflict = None;
  pinned_conflict = None;
  defence = record { interval = c.defend; last = None; owed = None };
}

-- what most programs want: the usual rules and rates
abbrev pub usual_guard : IfaceGuard
usual_guard = record {
  echo_requests = record { interval = 0; at_once = 0 };
  errors = record { interval = 10000; at_once = 10 };
  resets = record { interval = 10000; at_once = 10 };
  strangers_stay = 20000000;
  on = 1;
  own_addresses = 1;
  loops = 1;
  fragments = 0;
  turns = 1;
  reports = 1;
  routers = 1;
  slots = 1;
  longest_error = 3;
  defend = 0;
}

-- what was dropped and held back, as C reads it
abbrev pub drops_shown : IfaceHost → IfaceDrops
drops_shown host = record {
  own_address = host.watch.counts.own_address;
  own_source = host.watch.counts.own_source;
  pinned = host.watch.counts.pinned;
  fragment = host.watch.counts.fragment;
  loops = host.watch.counts.loops;
  echo_request = host.watch.counts.echo_request;
  error = host.watch.counts.error;
  reset = host.watch.counts.reset;
}

-- who claimed an own address last, if somebody did
abbrev pub conflict_of : IfaceHost → Option Conflict
conflict_of host = host.watch.conflict

-- or a pinned one
abbrev pub pinned_conflict_of : IfaceHost → Option Conflict
pinned_conflict_of host = host.watch.pinned_conflict

-- that was written, and nothing changed
pub record ShowsConflict (of : IfaceHost → Option Conflict) (hardware : List ℕ) (at : ℤ) (old new : IfaceHost) : Type 0 where
  pub conflict : Conflict
  pub is_there : of old ≡ Some conflict
  pub hardware_is : hardware ≡ conflict.hardware.0
  pub at_is : at ≡ conflict.at
  pub same : new ≡ old
