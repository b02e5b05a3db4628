pub mod AddedWindows
pub mod Fronts
pub mod NormFronts
pub mod NormLists
pub mod NormsLeft
pub mod WindowOrder
pub mod Windows
