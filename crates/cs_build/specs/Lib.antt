pub mod BuildLaws
pub mod Building
pub mod Joining
pub mod Ordering
pub mod RowColumns
pub mod WordRuns
