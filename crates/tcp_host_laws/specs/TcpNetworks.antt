pub mod Stations
pub mod Queues
pub mod Arrivals
pub mod Receptions
pub mod Beginnings
pub mod Networks
pub mod Orders
pub mod Readings
