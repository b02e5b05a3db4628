pub mod KeySets
pub mod SlotKeys
pub mod Indexes
pub mod Postings
pub mod IndexTexts
pub mod Begun
pub mod inner
