pub mod Alike
pub mod Busy
pub mod Datagrams
pub mod Keys
