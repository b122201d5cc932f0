pub mod Chips
pub mod Refusals
pub mod Laws
pub mod Calls
