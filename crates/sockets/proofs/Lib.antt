pub mod OctetsLemmas
pub mod QueueLemmas
pub mod RawLemmas
