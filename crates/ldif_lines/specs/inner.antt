pub mod Cuts
pub mod DraftSteps
pub mod Drafts
pub mod Examples
pub mod Moves
pub mod ReaderStates
pub mod States
pub mod View
