pub mod Codewords
pub mod Remainders
pub mod Systems
pub mod Balls
pub mod Nearby
pub mod Answered
