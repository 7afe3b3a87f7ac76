pub mod MarksLemmas
pub mod TablesLemmas
pub mod WordCountsLemmas
pub mod CountedWords
pub mod PlacesLemmas
