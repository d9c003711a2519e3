pub mod Meaning
pub mod Ranked
pub mod Search
pub mod Slots
pub mod State
