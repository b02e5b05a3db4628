pub mod Asked
pub mod Brackets
pub mod Candidates
pub mod Numbers
pub mod Sides
pub mod inner
