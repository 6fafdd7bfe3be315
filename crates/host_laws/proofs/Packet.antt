pub mod FrameLengths
pub mod WellFormed
