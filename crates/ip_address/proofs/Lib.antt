pub mod AgreeingBits
pub mod CommonBits
pub mod LastAddress
pub mod LongestRun
pub mod SixOctets
pub mod Best
