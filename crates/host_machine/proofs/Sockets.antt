pub mod OtherPorts
pub mod QuietSockets
pub mod SocketIteration
pub mod TcpSegments
