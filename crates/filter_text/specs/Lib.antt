pub mod Runs
pub mod Values
pub mod Items
pub mod Spells
pub mod Depth
pub mod Faults
pub mod FaultReports
pub mod inner
