-- What only the crate itself says of its pieces.
pub mod Cuts
pub mod LentAttributes
pub mod Norms
pub mod LentBlocks
pub mod BlockTexts
pub mod RecordTexts
pub mod Walks
pub mod Examples
