pub mod Tables
pub mod Elements
pub mod Products
pub mod PowerSums
pub mod Roots
pub mod Differences
pub mod Locators
pub mod Corrections
