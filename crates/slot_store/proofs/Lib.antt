pub mod Placing
pub mod Searches
pub mod SlotBytes
pub mod Steps
