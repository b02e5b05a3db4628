pub mod Front
pub mod LastByte
pub mod Each
pub mod Through
pub mod Bound
pub mod Extended
pub mod TestedEnds
pub mod Groups
