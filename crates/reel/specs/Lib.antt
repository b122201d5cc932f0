pub mod Refusals
pub mod Numbers
pub mod Reading
pub mod Headers
