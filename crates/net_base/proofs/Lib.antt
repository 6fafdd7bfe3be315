pub mod KeptFrames
pub mod MemoryMoves
pub mod RangesLemmas
pub mod Walks
mod FifthRange
pub mod BucketLemmas
