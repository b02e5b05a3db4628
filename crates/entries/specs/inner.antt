pub mod StoredEntries
pub mod ValuesDrafts
pub mod ClassChecks
