pub mod EqualNameKeys
pub mod PartsOrder
