pub mod CourseLemmas
pub mod LiveExamples
