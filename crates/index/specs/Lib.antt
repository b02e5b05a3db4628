pub mod Edits
pub mod Indexes
pub mod KeyChanges
pub mod KeySets
pub mod inner
