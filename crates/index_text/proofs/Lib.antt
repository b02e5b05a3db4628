pub mod Putting
pub mod SlotKeyOrder
