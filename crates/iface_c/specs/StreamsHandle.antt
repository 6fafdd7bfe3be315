-- The connections of a handle.
use Rattle.std.specs.Prelude.{Option}
use Rattle.iface_streams.specs.declared.streams.Streams.{Streams}
use Rattle.iface_c.specs.declared.streams_handle.IfaceStreams.{IfaceStreams}

-- the connections that a handle owns, if it owns some
abbrev pub streams_in : IfaceStreams → Option Streams
streams_in handle = handle.slot.streams
