pub mod Refusals
pub mod Frame
pub mod Judging
