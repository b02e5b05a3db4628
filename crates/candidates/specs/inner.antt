pub mod Held
pub mod OneSide
pub mod Numbers
