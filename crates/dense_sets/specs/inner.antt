pub mod Forms
pub mod Merged
