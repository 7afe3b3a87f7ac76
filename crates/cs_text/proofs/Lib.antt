pub mod AsciiWordsLemmas
pub mod CutLemmas
pub mod DigitLemmas
pub mod KeyBytesLemmas
pub mod WordPiecesLemmas
pub mod SlugLemmas
pub mod SplitLemmas
pub mod Utf8Lemmas
