pub mod Arp
pub mod Ndisc
pub mod Renewal
pub mod Router
pub mod RouterSolicitation
pub mod Polling
