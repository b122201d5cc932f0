pub mod Accepted
pub mod Lives
pub mod Scans
pub mod Lengths
