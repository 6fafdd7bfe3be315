pub mod Queue
pub mod Source
pub mod Icmp
pub mod Raw
pub mod Tcp
pub mod Udp
pub mod Kinds
pub mod Details
