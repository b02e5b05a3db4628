pub mod Ascii
pub mod Ends
pub mod Answers
pub mod Extends
pub mod Naming
