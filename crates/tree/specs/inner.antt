pub mod Above
pub mod Trees
pub mod Plans
pub mod Moves
pub mod Chain
