pub mod Dhcp
pub mod Hear
pub mod Place
pub mod Apply
pub mod Send
pub mod Probe
pub mod Poll
