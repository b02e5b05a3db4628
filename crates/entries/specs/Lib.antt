pub mod Contents
pub mod EntryClasses
pub mod Entries
pub mod Modifies
pub mod Gives
pub mod StoredEntries
pub mod inner
