pub mod Kind
pub mod Kinds
pub mod Sequence
pub mod Entries
pub mod Laws
pub mod Cut
