-- What C reads of a host's counters, and of whether its sockets may have changed.
use Rattle.std.specs.Prelude.{ℕ, ◌≡◌, false}
use Rattle.iface_host.specs.Counters.{counters_of}
use Rattle.iface_host.specs.declared.host.IfaceHost.{IfaceHost}
use Rattle.iface_c.specs.Properties.{flag_of}
use Rattle.iface_c.specs.declared.counters.IfaceCounters.{IfaceCounters}

-- all that a host counts, as C reads it
abbrev pub counters_shown : IfaceHost → IfaceCounters
counters_shown host = record {
  frames_in = (counters_of host).frames.taken;
  frames_out = (counters_of host).frames.handed_over;
  given_up = (counters_of host).given_up;
  no_memory = (counters_of host).no_memory;
}

-- whether a socket may have changed since that was last asked was written, and isn't told again
pub record ShowsChanged (shown : ℕ) (old new : IfaceHost) : Type 0 where
  pub changed_is : shown ≡ flag_of old.changed
  pub once : new ≡ record old { changed = false }
