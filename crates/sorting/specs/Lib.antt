pub mod Stanzas
pub mod Heads
pub mod NormalNames
pub mod Turns
pub mod Orders
pub mod Sorted
pub mod Reads
pub mod inner
