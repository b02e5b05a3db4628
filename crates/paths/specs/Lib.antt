pub mod Paths
pub mod PathLaws
pub mod Packed
pub mod Scopes
