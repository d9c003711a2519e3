pub mod NameKeys
pub mod Offsets
pub mod Order
pub mod Sees
