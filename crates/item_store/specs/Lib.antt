pub mod Access
pub mod Items
