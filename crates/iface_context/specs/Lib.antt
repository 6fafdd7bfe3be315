pub mod Refines
pub mod Stands
pub mod Multicast
pub mod Details
