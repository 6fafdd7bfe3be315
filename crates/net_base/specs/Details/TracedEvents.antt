-- The events that a tracer keeps, as those of a device.
use Rattle.std.specs.Prelude.{◌≡◌, ℕ, ◌-◌, ◌^◌, ◌==◌, ℤ, Bool, true, List, ◌++◌, map, if◌then◌else◌}
use Rattle.std.specs.Prelude.{Option, Some, None}
use Rattle.net_base.specs.Device.{Event, Received, Asked, Sent, Frame, Nothing, Withheld}
use Rattle.net_base.specs.declared.tracer.TracedEvent.{TracedEvent}
use Rattle.net_base.specs.declared.tracer.TracedEvent.TheVariants as traced

abbrev pub traced_event : TracedEvent → Event
traced_event (traced.Frame now frame) = Received now (Frame frame.items)
traced_event (traced.NoFrame now) = Received now Nothing
traced_event (traced.Withheld now) = Received now Withheld
traced_event (traced.Asked now granted) = Asked now granted
traced_event (traced.Sent meta frame) = Sent meta.id frame.items

abbrev pub traced_events : List TracedEvent → List Event
traced_events log = map traced_event log

-- a list that is complete after these events: it was complete before them, and has them at its end
abbrev pub Traces : Bool → List Event → List Event → Bool → List Event → Type 0
Traces was_complete before events is_complete after =
    is_complete ≡ true → (was_complete ≡ true) × (after ≡ before ++ events)

-- the event of a request for a frame that delivered none: a frame was withheld if the refusal count rose, which
-- it can't at its end
abbrev pub none_by_counts : ℤ → ℕ → ℕ → Option TracedEvent
none_by_counts now before after = if before == 2 ^ 64 - 1 then None
    else if after == before then Some (traced.NoFrame now) else Some (traced.Withheld now)
