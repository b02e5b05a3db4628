pub mod EntryKeys
pub mod NumberedEntries
pub mod Pairs
pub mod RankedKeys
pub mod StoredNorms
pub mod TypeNorms
pub mod inner
