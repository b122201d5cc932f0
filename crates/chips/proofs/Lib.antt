pub mod Lengths
pub mod Patterns
pub mod Blocks
pub mod Counting
pub mod Hearing
