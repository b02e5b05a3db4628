pub mod Taken
pub mod Norms
pub mod Retained
pub mod Joined
pub mod Tables
pub mod Buckets
