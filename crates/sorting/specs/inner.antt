pub mod Stanzas
pub mod Records
pub mod Numbers
pub mod Heads
