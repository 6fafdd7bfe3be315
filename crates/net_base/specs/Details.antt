pub mod DriverLaws
pub mod Exact
pub mod MemoryDeviceLaws
pub mod Passed
pub mod RangesLaws
pub mod TracedEvents
pub mod TracerLaws
