pub mod Bits
pub mod Counts
pub mod Keys
pub mod Logic
pub mod Through
