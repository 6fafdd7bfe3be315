pub mod Receives
pub mod Refines
