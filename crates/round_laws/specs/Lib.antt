pub mod TwoRounds
pub mod Closings
pub mod HalfRules
pub mod Exactly
pub mod Room
