pub mod Indexes
pub mod IndexRows
pub mod Ordered
