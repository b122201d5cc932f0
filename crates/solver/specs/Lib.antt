pub mod Linear
pub mod Elimination
