pub mod BuildLemmas
pub mod CommandLineExamples
pub mod SaysLemmas
pub mod SizedFiles
pub mod SourceLemmas
pub mod StopLemmas
