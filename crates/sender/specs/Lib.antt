pub mod Refusals
pub mod Sending
pub mod Takes
pub mod Signal
pub mod Examples
