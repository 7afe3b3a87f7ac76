pub mod Filters
pub mod Fronts
pub mod RowPlaces
