pub mod Taken
pub mod Pulls
