pub mod TableListings
pub mod Marks
pub mod WordCounts
