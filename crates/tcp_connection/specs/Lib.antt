pub mod Blocks
pub mod Segments
pub mod Asked
pub mod Pieces
pub mod Actions
pub mod Details
