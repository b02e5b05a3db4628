pub mod Types
pub mod Tables
pub mod Values
pub mod Norms
pub mod Elements
pub mod Joined
pub mod inner
