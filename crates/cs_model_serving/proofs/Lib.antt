pub mod ConnectionExamples
pub mod CountLemmas
pub mod FrameLemmas
pub mod HeadExamples
pub mod LineLemmas
pub mod ReaderLemmas
pub mod ServeLemmas
