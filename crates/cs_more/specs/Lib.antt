pub mod LineGiven
pub mod RecordsLeft
pub mod RunSearch
