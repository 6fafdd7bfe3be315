pub mod Datagrams
pub mod Message
pub mod Packets
pub mod Routes
pub mod Wishes
