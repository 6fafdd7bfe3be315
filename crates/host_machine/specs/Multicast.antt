pub mod Joins
pub mod Igmp
pub mod Mld
pub mod Timeout
pub mod Polling
