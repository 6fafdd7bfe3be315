pub mod PacketValues
pub mod Pieces
