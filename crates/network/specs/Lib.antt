pub mod Kept
pub mod Network
pub mod Laws
