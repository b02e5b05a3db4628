pub mod Truths
pub mod Orders
pub mod Pieces
pub mod Items
pub mod Filters
pub mod Prepared
pub mod Made
