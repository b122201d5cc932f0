pub mod Nearest
pub mod Codec
pub mod Search
