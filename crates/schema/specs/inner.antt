pub mod Keys
pub mod Classes
pub mod Confs
pub mod Marks
pub mod Settled
pub mod Fronts
