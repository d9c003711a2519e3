pub mod Log
pub mod Meaning
pub mod State
pub mod Walk
