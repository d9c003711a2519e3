pub mod Counts
pub mod Grounds
pub mod Marks
pub mod Stretches
