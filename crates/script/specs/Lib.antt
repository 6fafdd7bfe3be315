pub mod Commands
pub mod Hex
pub mod Printed
pub mod Runs
pub mod Sockets
pub mod Status
pub mod Text
