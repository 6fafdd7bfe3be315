pub mod Datagrams
pub mod Text
