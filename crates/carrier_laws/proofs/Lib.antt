pub mod Undamaged
pub mod Lines
pub mod Judgings
pub mod Reading
