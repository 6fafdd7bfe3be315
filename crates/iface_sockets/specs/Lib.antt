pub mod Polling
pub mod Segment
pub mod Turns
