pub mod Host
pub mod Addresses
pub mod Note
pub mod Membership
pub mod Settings
pub mod Autoconfiguration
pub mod Pieces
pub mod Real
