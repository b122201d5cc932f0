pub mod Line
pub mod Calls
pub mod Stages
pub mod Lines
pub mod Laws
