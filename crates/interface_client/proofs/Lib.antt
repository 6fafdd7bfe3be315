pub mod Refusals
pub mod TracedRuns
