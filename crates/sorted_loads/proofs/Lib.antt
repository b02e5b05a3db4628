pub mod Content
pub mod Runs
pub mod Parents
