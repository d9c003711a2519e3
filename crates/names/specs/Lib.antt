pub mod ByteOrder
pub mod NameRule
pub mod Packing
