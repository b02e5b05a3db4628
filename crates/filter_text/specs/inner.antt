pub mod Begins
pub mod Pieces
pub mod Shapes
pub mod Depth
pub mod Joins
