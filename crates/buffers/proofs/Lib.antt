pub mod Extending
pub mod Appending
pub mod Padding
