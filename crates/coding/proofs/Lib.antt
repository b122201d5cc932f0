pub mod Words
pub mod Numbers
pub mod Groups
pub mod Sums
pub mod Distances
pub mod Division
pub mod Quotient
