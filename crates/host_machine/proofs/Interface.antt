pub mod RoundWithoutPieces
pub mod EarliestInstant
