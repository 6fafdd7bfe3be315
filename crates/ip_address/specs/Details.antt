pub mod Ipv6Text
