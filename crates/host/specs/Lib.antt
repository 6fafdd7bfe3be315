pub mod Commands
pub mod Devices
pub mod Driven
pub mod Joined
pub mod Link
