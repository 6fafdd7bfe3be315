pub mod Options
pub mod Tcp
