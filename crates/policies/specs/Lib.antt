pub mod FirstKept
pub mod Halving
pub mod Kept
pub mod Retentions
pub mod Settings
