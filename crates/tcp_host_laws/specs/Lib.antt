pub mod Lives
pub mod Calls
pub mod Turns
pub mod Laws
pub mod Pairs
pub mod Releases
pub mod Readings
pub mod TcpNetworks
