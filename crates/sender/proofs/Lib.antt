pub mod Making
pub mod Steps
pub mod Calling
pub mod Takes
pub mod StandardLine
pub mod Chipped
