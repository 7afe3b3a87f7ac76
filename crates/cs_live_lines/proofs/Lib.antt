pub mod OutcomeLines
pub mod SecondLines
pub mod WeightedLines
