pub mod Buffers
pub mod IcmpLending
pub mod KindsLending
pub mod RawLending
pub mod SendError
pub mod TcpLending
pub mod UdpLending
