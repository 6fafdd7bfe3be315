pub mod Ethernet
pub mod Ipv4
pub mod Ipv6
pub mod Reassembly
pub mod Reply
pub mod Response
