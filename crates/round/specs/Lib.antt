pub mod Refusals
pub mod Rounds
pub mod Sets
pub mod Views
pub mod Moves
