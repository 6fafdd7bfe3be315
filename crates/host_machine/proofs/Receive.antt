pub mod Keys
pub mod FewFragments
pub mod Pieces
pub mod Parts
