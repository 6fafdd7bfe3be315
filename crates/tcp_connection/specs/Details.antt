pub mod Arrived
pub mod Bounds
pub mod Parts
pub mod Sent
pub mod Told
