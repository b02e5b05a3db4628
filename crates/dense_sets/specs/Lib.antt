pub mod Keys
pub mod inner
