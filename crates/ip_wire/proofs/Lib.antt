pub mod OctetCells
pub mod Pseudos
pub mod Sums
pub mod Failures
pub mod Halves
pub mod HopByHopAgain
pub mod Ipv6Again
pub mod Options
pub mod EmittedOptions
pub mod ArpAgain
pub mod EthernetAgain
mod HeaderSums
pub mod Ipv4Again
pub mod TcpAgain
pub mod TransportSums
pub mod UdpAgain
