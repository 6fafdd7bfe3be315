pub mod Guarded
pub mod GuardedLaws
