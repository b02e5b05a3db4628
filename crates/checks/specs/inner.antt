pub mod Walks
pub mod FoundFaults
pub mod Holders
pub mod Reports
