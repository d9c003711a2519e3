pub mod Answers
pub mod BigEndian
pub mod Blocks
pub mod Bytes
pub mod Moments
pub mod Refusals
