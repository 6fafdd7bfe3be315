pub mod Destination
pub mod Offered
