pub mod KeptIndex
pub mod RefusedEdits
pub mod ByIndex
pub mod WholeIndex
pub mod RankLists
pub mod RanksByNumber
pub mod IndexRows
pub mod RanksForNumbers
