pub mod Answers
pub mod BigEndian
pub mod Over
pub mod Places
