pub mod CsvSources
pub mod JsonSources
pub mod SourceLaws
pub mod SourceRefusals
pub mod Translated
