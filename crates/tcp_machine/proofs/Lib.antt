mod RingLemmas
pub mod PositionsLemmas
pub mod ScoreboardLemmas
