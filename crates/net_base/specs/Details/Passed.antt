-- What passed between an interface and a driver, as an event of a device.
use Rattle.net_base.specs.Device.{Event, Received, Asked, Sent, Frame, Nothing}
use Rattle.net_base.specs.declared.trace.Passed.{Passed}
use Rattle.net_base.specs.declared.trace.Passed.TheVariants as passed

abbrev pub event_of : Passed → Event
event_of (passed.Frame now frame) = Received now (Frame frame.now)
event_of (passed.NoFrame now) = Received now Nothing
event_of (passed.Asked now granted) = Asked now granted
event_of (passed.Sent meta frame) = Sent meta.id frame.now
