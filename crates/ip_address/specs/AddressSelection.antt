pub mod Ipv6
