pub mod Found
pub mod Lines
pub mod Drafts
pub mod Entries
pub mod Changes
pub mod Renames
