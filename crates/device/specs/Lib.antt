pub mod Device
pub mod Adapters
pub mod inner
