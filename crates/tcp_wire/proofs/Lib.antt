pub mod Emitting
pub mod Lengths
pub mod OptionsAgain
pub mod Reading
pub mod Sums
pub mod TcpAgain
