pub mod Orders
pub mod PackOrder
pub mod Unpacked
pub mod PackedPaths
