pub mod Holders
pub mod Lending
pub mod Pending
pub mod Place
pub mod PlaceLending
pub mod Reassembled
