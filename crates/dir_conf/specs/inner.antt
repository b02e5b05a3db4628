pub mod Views
pub mod FoundFlaws
pub mod ListsView
pub mod Passes
