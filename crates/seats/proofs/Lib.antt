pub mod AllSeats
pub mod PartMoves
