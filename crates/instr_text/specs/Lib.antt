pub mod Cut
pub mod Expanded
pub mod Front
pub mod Gives
pub mod Piece
pub mod Words
