pub mod Cards
pub mod Starting
pub mod Blocks
pub mod Arrived
pub mod Heard
pub mod Passes
pub mod Sent
pub mod Whole
