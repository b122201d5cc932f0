pub mod Octets
pub mod Reading
pub mod AsSent
pub mod Filling
