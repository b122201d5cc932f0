pub mod Refusals
pub mod Receiving
pub mod Passing
pub mod Guarantee
pub mod Hearing
