pub mod Dispatch
pub mod Hops
pub mod Requests
pub mod Outcome
pub mod Fragments
