pub mod Marks
