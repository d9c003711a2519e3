pub mod Arguments
pub mod Commands
pub mod Numbers
pub mod Settings
pub mod Words
