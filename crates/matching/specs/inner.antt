pub mod Gaps
pub mod Numbers
pub mod Places
