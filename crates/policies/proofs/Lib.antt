pub mod Candidates
pub mod GivenUp
pub mod LeastKept
pub mod MadeMoments
pub mod TrailingZeros
