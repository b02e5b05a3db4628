pub mod NameFlaws
pub mod EntryFlaws
pub mod LineFlaws
pub mod BlockFlaws
pub mod Asked
pub mod Flaws
pub mod Reasons
pub mod inner
