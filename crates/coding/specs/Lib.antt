pub mod Bits
pub mod Distance
pub mod Polynomial
pub mod Crc
pub mod Buffers
