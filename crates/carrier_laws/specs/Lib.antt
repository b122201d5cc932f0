pub mod Runs
pub mod Bounds
pub mod ExactJudging
pub mod Blocks
