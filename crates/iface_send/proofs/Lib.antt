mod Destinations
mod DispatchFrame
mod FragmentTurns
mod Identified
pub mod Offered
