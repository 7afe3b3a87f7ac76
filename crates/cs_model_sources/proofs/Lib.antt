pub mod SourceExamples
pub mod SourceLines
pub mod SourceWeights
pub mod TranslatedLemmas
