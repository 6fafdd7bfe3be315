pub mod Stands
pub mod Details
