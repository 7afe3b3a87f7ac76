pub mod ExcerptExamples
pub mod OwnLemmas
pub mod OwnRows
pub mod PartMarks
pub mod ServesLemmas
pub mod ShortestRuns
pub mod TextWords
