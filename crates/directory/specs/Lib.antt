pub mod Directories
pub mod Indexes
pub mod Searches
pub mod inner
