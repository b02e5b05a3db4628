pub mod Allowed
pub mod AskedKeys
pub mod Asking
pub mod Examples
pub mod Norms
pub mod Operands
pub mod Sets
pub mod Windows
