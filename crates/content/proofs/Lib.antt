pub mod LaidOut
pub mod TakingApart
pub mod Sequences
pub mod ReadBack
