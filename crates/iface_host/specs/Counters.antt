-- What a host counts.
use Rattle.std.specs.Prelude.{ℕ, ◌+◌, ◌-◌, ◌^◌, ◌==◌, if◌then◌else◌}
use Rattle.iface_host.specs.declared.counters.Counters.{Counters}
use Rattle.iface_host.specs.declared.counters.FrameCounts.{FrameCounts}
use Rattle.iface_host.specs.declared.host.IfaceHost.{IfaceHost}

-- one more, up to the greatest number of 64 bits
abbrev pub one_more : ℕ → ℕ
one_more n = if n == 2 ^ 64 - 1 then n else n + 1

-- no frame was counted
abbrev pub no_frames : FrameCounts
no_frames = record { taken = 0; handed_over = 0 }

-- a frame was taken
abbrev pub after_taking : FrameCounts → FrameCounts
after_taking counts = record counts { taken = one_more counts.taken }

-- a frame of so many octets was handed over, and none where there are no octets
abbrev pub after_handing : ℕ → FrameCounts → FrameCounts
after_handing n counts = if n == 0 then counts else record counts { handed_over = one_more counts.handed_over }

-- all that it counts
abbrev pub counters_of : IfaceHost → Counters
counters_of host =
    record { frames = host.frames; given_up = host.schedule.given_up; no_memory = host.outbox.refusals }
