pub mod Pattern
pub mod Streams
pub mod Transmitted
