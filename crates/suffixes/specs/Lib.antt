pub mod Configurations
pub mod SuffixLines
pub mod MovedValues
pub mod MovedDirectories
pub mod MovedEntries
pub mod inner
