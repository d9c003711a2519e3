pub mod ByteOrders
pub mod NameBytes
pub mod Names
