pub mod Fragments
pub mod Keys
pub mod Slots
pub mod Reassembly
pub mod Cuts
pub mod Assembly
pub mod Stands
pub mod Details
