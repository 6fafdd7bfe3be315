pub mod Delivery
pub mod Icmpv4
pub mod Icmpv6
pub mod Unreachable
pub mod HopByHop
