pub mod FragmentKey
pub mod Ipv4
pub mod Ipv6
pub mod Messages
