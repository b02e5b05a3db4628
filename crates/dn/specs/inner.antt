pub mod Cuts
pub mod Drafts
pub mod Examples
pub mod Octets
pub mod Places
pub mod Texts
