pub mod Fields
pub mod Refusals
pub mod Card
pub mod Life
pub mod Print
pub mod Kinds
