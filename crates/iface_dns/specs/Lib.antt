pub mod Dns
pub mod Hear
pub mod Errors
pub mod Ask
pub mod Poll
pub mod Start
pub mod Texts
