pub mod Icmp
