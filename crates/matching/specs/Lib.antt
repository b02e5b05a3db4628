pub mod Syntaxes
pub mod Integers
pub mod IntegerTexts
pub mod Forms
pub mod Orders
pub mod Differences
pub mod Substrings
pub mod inner
