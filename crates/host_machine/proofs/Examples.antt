pub mod Exchange
pub mod IgnoredFrames
pub mod ArpExchange
pub mod Listeners
pub mod Pair
