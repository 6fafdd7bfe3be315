pub mod MessageAgain
pub mod OptionsAgain
pub mod Reading
mod RouteReading
pub mod Texts
pub mod Ends
pub mod Leases
pub mod Spacing
pub mod Declining
pub mod Testing
pub mod Renewals
