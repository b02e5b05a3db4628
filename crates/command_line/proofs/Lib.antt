pub mod Added
mod Examples
pub mod Folders
pub mod Named
pub mod Patterns
pub mod Rows
pub mod Taken
