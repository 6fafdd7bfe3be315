pub mod Reading
pub mod Arrivals
pub mod Destinations
pub mod Packets
pub mod Receiving
pub mod Sending
pub mod Polls
pub mod Laws
